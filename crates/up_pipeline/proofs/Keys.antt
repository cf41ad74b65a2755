-- The keys of a table beside those of its members, and the document of a text.
use Rattle.std.proofs.Common.{◌≡◌, ℕ, List, [], ◌∷◌, Bool, true, false, not, cond, Some, None, option_map, refl, String, Global, string_bytes}
use Rattle.std.specs.Prelude.{find, if◌then◌else◌, IsUtf8}
use Rattle.std.specs.Str.{is_utf8}
use Rattle.std.specs.Map.{keys_of}
use Rattle.std.proofs.lemmas.Str.{is_utf8-from_IsUtf8, IsUtf8-from_is_utf8}
use Rattle.toml.specs.Data.{Members}
use Rattle.toml.specs.Parse.{parse_document}
use Rattle.toml.specs.View.{members_view}
use Rattle.toml.specs.declared.value.Value.{Value}
use Rattle.up_pipeline.specs.Document.{document, unknown_key, is_known}

pub unknown_key_keys : (es : List (String Global × Value))
    → unknown_key (members_view es) ≡ option_map string_bytes (find (λ key. not (is_known (string_bytes key))) (keys_of es))
unknown_key_keys [] = refl
unknown_key_keys (e ∷ es) =
    let rest = find (λ (key : String Global). not (is_known (string_bytes key))) (keys_of es) in
    elim (is_known (string_bytes e.0))
    as (λ known. (if known then unknown_key (members_view es) else Some (string_bytes e.0)) ≡ option_map string_bytes (cond (not known) (Some e.0) rest))
    [ true ↦ unknown_key_keys es | false ↦ refl ]

pub document_read : (bytes : List ℕ) (members : Members) → IsUtf8 bytes → parse_document bytes ≡ Some members → document bytes ≡ Some members
unfolding document
document_read bytes members text parsed = rw (is_utf8-from_IsUtf8 bytes text) parsed

pub document_refused : (bytes : List ℕ) → (IsUtf8 bytes → parse_document bytes ≡ None) → document bytes ≡ None
unfolding document
document_refused bytes refused =
    let by_test : (b : Bool) → is_utf8 bytes ≡ b → (if b then parse_document bytes else None) ≡ None =
    elim [ true ↦ λ is. refused (IsUtf8-from_is_utf8 bytes is) | false ↦ λ is. refl ] in
    by_test (is_utf8 bytes) refl

pub ruleset documents = (document_read, document_refused)
