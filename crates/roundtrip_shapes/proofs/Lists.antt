-- Written lists of names with their types are read as they are.
use Rattle.std.proofs.Common.{◌≡◌, Bool, true, false, List, [], ◌∷◌, ◌++◌, refl, append_assoc, append-nil}
use Rattle.std.specs.Prelude.{Some, None, flat_map}
use Rattle.up_text.specs.declared.place.Place.{Place}
use Rattle.up_text.specs.Names.{IsName}
use Rattle.up_text.specs.Lists.{Every}
use Rattle.up_tree.specs.declared.term.Typed.{Typed}
use Rattle.pddl_lex.specs.declared.tree.Sign.TheVariants as sign
use Rattle.pddl_lex.specs.declared.tree.TokenKind.TheVariants as kind
use Rattle.pddl_lex.specs.declared.tree.Sexp.{Sexp}
use Rattle.pddl_lex.specs.Parses.{parsed}
use Rattle.pddl_parse.specs.declared.raw.Ident.{Ident}
use Rattle.pddl_parse.specs.declared.raw.RawGroup.{RawGroup}
use Rattle.pddl_parse.specs.declared.typed.Item.TheVariants as item
use Rattle.pddl_parse.specs.TypedLists as lists
use Rattle.pddl_parse.specs.TypedLists.{is_minus, ends_after, last_group, typed_list}
use Rattle.pddl_parse.specs.Forms.{ident_at}
use Rattle.pddl_parse.proofs.Read.{ident_read}
use Rattle.roundtrip_tokens.specs.Tokens.{object_tokens}
use Rattle.roundtrip_shapes.specs.Raw.{at, AreRawNames, no_names, more_names, AreRawGroups, no_groups, more_groups, one_group}
use Rattle.roundtrip_shapes.proofs.Trees.{none_rowed, rowed_as, Led, led, led_rowed}
use Rattle.roundtrip_shapes.specs.Formed.{AllNamed}
use Rattle.roundtrip_shapes.proofs.Names.{word_is}
use Rattle.roundtrip_shapes.proofs.Each.{RowOf}

-- trees that are read as the names of these entries, after other names
data ReadNames (entries : List Typed) (trees : List Sexp) : Type 0 where
  read_names : (names : List Ident) → ends_after false trees ≡ false
      → ((place : Place) (front : List Ident) → lists.typed item.Name place trees front false ≡ last_group place (front ++ names) false)
      → AreRawNames entries names → ReadNames entries trees

-- trees that are read as these entries
data ReadEntries (typed : Bool) (entries : List Typed) (trees : List Sexp) : Type 0 where
  read_entries : (groups : List RawGroup) → ends_after false trees ≡ false
      → ((place : Place) → lists.typed item.Name place trees [] false ≡ parsed groups) → AreRawGroups typed entries groups → ReadEntries typed entries trees

names_rowed : (entries : List Typed) → AllNamed entries → RowOf (flat_map (object_tokens false) entries) (ReadNames entries)
unfolding is_minus
names_rowed [] all tokens kinds = none_rowed tokens kinds (ReadNames []) (read_names [] refl (λ place front. rw (append-nil front) refl) no_names)
names_rowed (e ∷ entries) all tokens kinds =
    rowed_as (led_rowed (kind.Word e.name) refl (flat_map (object_tokens false) entries) (ReadNames entries) (names_rowed entries all.1) tokens kinds) more
  where
    more : (trees : List Sexp) → Led (kind.Word e.name) (ReadNames entries) trees → ReadNames (e ∷ entries) trees
    more _ (led there rest (read_names names ends reads raw)) =
        read_names (ident_at e.name there ∷ names) ends
        (λ place front. rw (ident_read _ _ (word_is e.name all.0 there), reads place (front ++ ident_at e.name there ∷ []), append_assoc front (ident_at e.name there ∷ []) names) refl)
        (more_names e entries (ident_at e.name there) names (at there) raw)

untyped_rowed : (entries : List Typed) → AllNamed entries → RowOf (flat_map (object_tokens false) entries) (ReadEntries false entries)
untyped_rowed [] all tokens kinds = none_rowed tokens kinds (ReadEntries false []) (read_entries [] refl (λ place. refl) (no_groups false))
untyped_rowed (e ∷ entries) all tokens kinds = rowed_as (names_rowed (e ∷ entries) all tokens kinds) whole
  where
    grouped : (names : List Ident) → AreRawNames (e ∷ entries) names → (place : Place) → last_group place names false ≡ parsed (record { names = names; of = None } ∷ [])
    grouped _ (more_names _ _ ident idents is are) place = refl

    whole : (trees : List Sexp) → ReadNames (e ∷ entries) trees → ReadEntries false (e ∷ entries) trees
    whole trees (read_names names ends reads raw) =
        read_entries (record { names = names; of = None } ∷ []) ends (λ place. rw (reads place []) (grouped names raw place)) (one_group e entries names raw)

typed_rowed : (entries : List Typed) → AllNamed entries → Every (λ e. IsName e.of) entries → RowOf (flat_map (object_tokens true) entries) (ReadEntries true entries)
unfolding is_minus
typed_rowed [] all types tokens kinds = none_rowed tokens kinds (ReadEntries true []) (read_entries [] refl (λ place. refl) (no_groups true))
typed_rowed (e ∷ entries) all types tokens kinds =
    rowed_as
    (led_rowed (kind.Word e.name) refl (kind.Sign sign.Minus ∷ kind.Word e.of ∷ flat_map (object_tokens true) entries)
    (Led (kind.Sign sign.Minus) (Led (kind.Word e.of) (ReadEntries true entries)))
    (led_rowed (kind.Sign sign.Minus) refl (kind.Word e.of ∷ flat_map (object_tokens true) entries) (Led (kind.Word e.of) (ReadEntries true entries))
    (led_rowed (kind.Word e.of) refl (flat_map (object_tokens true) entries) (ReadEntries true entries) (typed_rowed entries all.1 types.1)))
    tokens kinds)
    more
  where
    more : (trees : List Sexp) → Led (kind.Word e.name) (Led (kind.Sign sign.Minus) (Led (kind.Word e.of) (ReadEntries true entries))) trees → ReadEntries true (e ∷ entries) trees
    more _ (led one _ (led dash _ (led two rest (read_entries groups ends reads raw)))) =
        read_entries (record { names = ident_at e.name one ∷ []; of = Some (ident_at e.of two) } ∷ groups) ends
        (λ place. rw (ident_read _ _ (word_is e.name all.0 one), ident_read _ _ (word_is e.of types.0 two), reads place) refl)
        (more_groups e entries (ident_at e.name one) (ident_at e.of two) groups (at one) (at two) raw)

entries_rowed : (typed : Bool) (entries : List Typed) → AllNamed entries → Every (λ e. IsName e.of) entries → RowOf (flat_map (object_tokens typed) entries) (ReadEntries typed entries)
entries_rowed true entries all types = typed_rowed entries all types
entries_rowed false entries all types = untyped_rowed entries all

-- trees that are read, as those of a section, as these entries
pub data ReadsList (typed : Bool) (entries : List Typed) (trees : List Sexp) : Type 0 where
  reads_list : (groups : List RawGroup) → ((place : Place) → typed_list item.Name place trees ≡ parsed groups) → AreRawGroups typed entries groups → ReadsList typed entries trees

pub list_read : (typed : Bool) (entries : List Typed) → AllNamed entries → Every (λ e. IsName e.of) entries → RowOf (flat_map (object_tokens typed) entries) (ReadsList typed entries)
list_read typed entries all types tokens kinds = rowed_as (entries_rowed typed entries all types tokens kinds) whole
  where
    whole : (trees : List Sexp) → ReadEntries typed entries trees → ReadsList typed entries trees
    whole trees (read_entries groups ends reads raw) = reads_list groups (λ place. rw (ends, reads place) refl) raw
