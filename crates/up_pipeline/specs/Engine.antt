-- What an engine text says, or the first cause that refuses it.
use Rattle.std.specs.Prelude.{◌≡◌, ℕ, List, Option, None, Some, Result, Ok, Err, codes, bit_or, if◌then◌else◌}
use Rattle.toml.specs.Data.{Data, Items, no_items, item, Members, get_member, as_str, as_array}
use Rattle.up_kind.specs.declared.kind.Kind.{Kind}
use Rattle.up_kind.specs.declared.feature.Feature.{Feature}
use Rattle.up_kind.specs.Features.{feature_of, feature_bit, is_visible}
use Rattle.up_pipeline.specs.declared.engine.Engine.{Engine}
use Rattle.up_pipeline.specs.declared.engine.EngineError.{EngineError}
use Rattle.up_pipeline.specs.declared.engine.EngineError.TheVariants.{Memory, Toml, UnknownKey, NoKey, WrongType, UnknownFeature}
use Rattle.up_pipeline.specs.Document.{document, unknown_key, are_strings}

-- the kind with the feature of a word besides, where it is a visible one
abbrev pub add_feature : List ℕ → Option Feature → Kind → Result Kind EngineError
add_feature word None kind = Err (UnknownFeature word)
add_feature word (Some feature) kind =
    if is_visible feature then Ok (record { 0 = bit_or kind.0 (feature_bit feature) }) else Err (UnknownFeature word)

-- the same of an item that may be no string
abbrev pub add_item : Option (List ℕ) → Kind → Result Kind EngineError
add_item None kind = Ok kind
add_item (Some word) kind = add_feature word (feature_of word) kind

abbrev pub go_on : (Kind → Result Kind EngineError) → Result Kind EngineError → Result Kind EngineError
go_on next (Ok kind) = next kind
go_on next (Err fault) = Err fault

-- the kind with the features of these words besides, or the first that is no visible feature
abbrev pub add_words : Items → Kind → Result Kind EngineError
add_words no_items kind = Ok kind
add_words (item value rest) kind = go_on (add_words rest) (add_item (as_str value) kind)

abbrev pub named : List ℕ → Result Kind EngineError → Result Engine EngineError
named name (Ok kind) = Ok (record { name = name; features = kind })
named name (Err fault) = Err fault

-- The types of the values: features first.
abbrev pub with_name : Items → Option (List ℕ) → Result Engine EngineError
with_name words None = Err (WrongType (codes "name"))
with_name words (Some name) = named name (add_words words (record { 0 = 0 }))

abbrev pub with_items : Option Items → Data → Result Engine EngineError
with_items None name = Err (WrongType (codes "features"))
with_items (Some words) name =
    if are_strings words then with_name words (as_str name) else Err (WrongType (codes "features"))

-- The keys that are missing: features first.
abbrev pub with_values : Option Data → Option Data → Result Engine EngineError
with_values None name = Err (NoKey (codes "features"))
with_values (Some features) None = Err (NoKey (codes "name"))
with_values (Some features) (Some name) = with_items (as_array features) name

abbrev pub with_keys : Members → Option (List ℕ) → Result Engine EngineError
with_keys found (Some key) = Err (UnknownKey key)
with_keys found None = with_values (get_member (codes "features") found) (get_member (codes "name") found)

abbrev pub engine_of_document : Option Members → Result Engine EngineError
engine_of_document None = Err Toml
engine_of_document (Some members) = with_keys members (unknown_key members)

-- the engine of a text, or its first refusal
abbrev pub engine_of : List ℕ → Result Engine EngineError
engine_of bytes = engine_of_document (document bytes)

-- a result is as it should be, but for want of memory
abbrev pub Gives : {T : Type 0} → Result T EngineError → Result T EngineError → Type 0
Gives expected result = ¬ (result ≡ Err Memory) → result ≡ expected
