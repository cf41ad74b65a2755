-- Written objects and arguments are declared as those of the problem.
use Rattle.std.proofs.Common.{◌≡◌, Bool, true, List, [], ◌∷◌, ◌++◌, map, refl, ap, sym, ◌∙◌, append_assoc}
use Rattle.std.proofs.lemmas.List.{append-nil}
use Rattle.up_text.specs.declared.name.Name.{Name}
use Rattle.up_text.specs.Lists.{Every, Differ}
use Rattle.up_tree.specs.declared.term.Typed.{Typed}
use Rattle.up_tree.specs.declared.problem.Parts.{Parts}
use Rattle.up_tree.specs.WellFormed.{IsType}
use Rattle.pddl_lex.specs.Parses.{parsed}
use Rattle.pddl_parse.specs.declared.raw.Ident.{Ident}
use Rattle.pddl_parse.specs.declared.raw.RawGroup.{RawGroup}
use Rattle.up_phrase.specs.Declarations.{Declarations}
use Rattle.up_phrase.specs.Named.{object}
use Rattle.up_phrase.specs.Walks.{in_turn}
use Rattle.up_declare.specs.Declaring.{with_object, with_objects}
use Rattle.roundtrip_shapes.specs.Raw.{at, AreRawNames, no_names, more_names, AreRawGroups, no_groups, more_groups, one_group}
use Rattle.roundtrip_names.specs.Declared.{entry, TypesWritten, and_objects}
use Rattle.roundtrip_names.proofs.Entered.{Free, still_free, type_listed, only_top, all_top}
use Rattle.std.specs.Prelude.{None}
use Rattle.up_phrase.specs.Lookups.{type_of}

abbrev with_entries : Declarations → List (Name × Name) → Declarations
with_entries names more = record { types = names.types; objects = names.objects ++ more; predicates = names.predicates; functions = names.functions }

-- nothing more
none_more : (names : Declarations) → names ≡ with_entries names []
none_more names = ap (λ os. record { types = names.types; objects = os; predicates = names.predicates; functions = names.functions }) (sym (append-nil names.objects))

twice_more : (names : Declarations) (xs ys : List (Name × Name)) → with_entries (with_entries names xs) ys ≡ with_entries names (xs ++ ys)
twice_more names xs ys = ap (λ os. record { types = names.types; objects = os; predicates = names.predicates; functions = names.functions }) (append_assoc names.objects xs ys)

names_declared : (of : Name) (new : List Typed) (idents : List Ident) (names : Declarations) → AreRawNames new idents → Free names.objects new → Differ (map (λ v. v.name) new)
    → in_turn (with_object of) idents names ≡ parsed (with_entries names (map (λ (v : Typed). (v.name, of)) new))
names_declared of [] _ names no_names free differ = ap parsed (none_more names)
names_declared of (v ∷ new) _ names (more_names _ _ _ idents (at place) are) free differ =
    rw free.0 (names_declared of new idents (with_entries names ((v.name, of) ∷ [])) are (still_free names.objects v.name of new differ.0 free.1) differ.1
    ∙ ap parsed (twice_more names ((v.name, of) ∷ []) (map (λ (v : Typed). (v.name, of)) new)))

objects_declared : (p : Parts) (typed : Bool) → TypesWritten typed p → (new : List Typed) (groups : List RawGroup) (names : Declarations) → names.types ≡ map entry p.types
    → AreRawGroups typed new groups → Free names.objects new → Differ (map (λ v. v.name) new) → Every (λ v. IsType p v.of) new
    → with_objects groups names ≡ parsed (with_entries names (map entry new))
objects_declared p _ all [] _ names listed (no_groups _) free differ types = ap parsed (none_more names)
objects_declared p _ all (v ∷ new) _ names listed (more_groups _ _ _ _ groups (at place) (at there) are) free differ types =
    rw (free.0, type_listed (with_entries names ((v.name, v.of) ∷ [])) p listed v.of types.0)
    (objects_declared p true all new groups (with_entries names ((v.name, v.of) ∷ [])) listed are (still_free names.objects v.name v.of new differ.0 free.1) differ.1 types.1
    ∙ ap parsed (twice_more names ((v.name, v.of) ∷ []) (map entry new)))
objects_declared p _ all (v ∷ new) _ names listed (one_group _ _ idents are) free differ types =
    rw (names_declared object (v ∷ new) idents names are free differ) (ap (λ es. parsed (with_entries names es)) (all_top (v ∷ new) (only_top p (all refl) (v ∷ new) types)))

pub objects_are_named : (p : Parts) (typed : Bool) → TypesWritten typed p → (new : List Typed) (groups : List RawGroup) (names : Declarations) → names.types ≡ map entry p.types
    → AreRawGroups typed new groups → Every (λ o. type_of names o.name ≡ None) new → Differ (map (λ o. o.name) new) → Every (λ o. IsType p o.of) new
    → with_objects groups names ≡ parsed (and_objects names new)
objects_are_named p typed all new groups names listed so free differ types = objects_declared p typed all new groups names listed so free differ types
