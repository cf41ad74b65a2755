-- What a written domain and problem declare is what the problem's parts say.
use Rattle.std.proofs.Common.{◌≡◌, false, true≢false, List, [], ◌∷◌, ◌++◌, map, take, drop, refl, ap, sym, ◌∙◌}
use Rattle.std.proofs.lemmas.List.{take-append-drop}
use Rattle.std.specs.Prelude.{not as flip}
use Rattle.up_tree.specs.declared.term.Typed.{Typed}
use Rattle.up_tree.specs.Simplify.{is_empty}
use Rattle.roundtrip_names.specs.Declared.{entry, Declares, TypesWritten, and_objects, domain_declarations}
use Rattle.up_tree.specs.declared.problem.Parts.{Parts}
use Rattle.up_kind.specs.declared.feature.Feature.TheVariants.{FlatTyping}
use Rattle.up_kind.specs.Carried.{carries}

map-append : (xs ys : List Typed) → map entry xs ++ map entry ys ≡ map entry (xs ++ ys)
map-append [] ys = refl
map-append (x ∷ xs) ys = ap (λ rest. entry x ∷ rest) (map-append xs ys)

append-none : (xs : List Typed) → xs ≡ xs ++ []
append-none [] = refl
append-none (x ∷ xs) = ap (λ rest. x ∷ rest) (append-none xs)

pub parts_are_declared : (p : Parts) → Declares (domain_declarations p) p (take p.constants p.objects) × Declares (and_objects (domain_declarations p) (drop p.constants p.objects)) p p.objects
parts_are_declared p = (
  record { types = refl; objects_named = refl; predicates = refl; functions = refl; others = drop p.constants p.objects; all_objects = sym (take-append-drop p.constants p.objects) },
  record {
    types = refl;
    objects_named = map-append (take p.constants p.objects) (drop p.constants p.objects) ∙ ap (map entry) (take-append-drop p.constants p.objects);
    predicates = refl;
    functions = refl;
    others = [];
    all_objects = append-none p.objects;
  },
)

pub types_are_written : (p : Parts) → TypesWritten (carries p FlatTyping) p
types_are_written p = by p.types
  where
    by : (ts : List Typed) → flip (is_empty ts) ≡ false → ts ≡ []
    by [] is = refl
    by (t ∷ ts) is = absurd (true≢false is)
