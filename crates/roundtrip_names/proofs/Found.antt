-- What is declared is found where the parts name it.
use Rattle.std.proofs.Common.{◌≡◌, ℕ, zero, suc, Bool, true, false, cond, ◌||◌, List, [], ◌∷◌, ◌++◌, map, length, Option, Some, None, option_map, refl, ap, sym, ◌∙◌, inl, inr}
use Rattle.std.specs.Prelude.{unwrap_or, IsSome, find}
use Rattle.std.specs.Option.{option_map_or}
use Rattle.std.specs.Map.{lookup}
use Rattle.std.specs.Cmp.Lexicographic.{bytes_decides, nat_list_eq_equiv}
use Rattle.std.proofs.lemmas.Bool.{false≢true}
use Rattle.std.proofs.lemmas.List.{length-map}
use Rattle.up_text.specs.declared.name.Name.{Name}
use Rattle.up_text.specs.Names.{same_name}
use Rattle.up_text.specs.Lists.{Member}
use Rattle.up_tree.specs.declared.term.Typed.{Typed}
use Rattle.up_tree.specs.declared.problem.Parts.{Parts}
use Rattle.up_tree.specs.declared.problem.Predicate.{Predicate}
use Rattle.up_tree.specs.declared.problem.Function.{Function}
use Rattle.up_tree.specs.Objects.{named, type_in, chain, predicate_named, function_named}
use Rattle.up_tree.specs.WellFormed.{IsBelow}
use Rattle.up_phrase.specs.Declarations.{Declarations}
use Rattle.up_phrase.specs.Named.{is_object}
use Rattle.up_phrase.specs.Lookups.{parent_of, type_of, predicate_of, function_of, climbs, is_under}
use Rattle.roundtrip_names.specs.Declared.{entry, signature_of, Declares}

pub same_swap : (a b : Name) → same_name a b ≡ same_name b a
same_swap a b = nat_list_eq_equiv.symm a b

pub or_true : (a b : Bool) → b ≡ true → (a || b) ≡ true
or_true true b is = refl
or_true false b is = is

-- the first entry of a name, as a map and as a list have it
module _ {X Y : Type 0} (key : X → Name) (value : X → Y) where
  pub looked_up : (xs : List X) (name : Name) → lookup (same_name name) (map (λ x. (key x, value x)) xs) ≡ option_map value (find (λ x. same_name (key x) name) xs)
  looked_up [] name = refl
  looked_up (x ∷ xs) name =
      let rest = looked_up xs name in
      let by : (b : Bool) → cond b (Some (value x)) (lookup (same_name name) (map (λ x. (key x, value x)) xs)) ≡ option_map value (cond b (Some x) (find (λ x. same_name (key x) name) xs)) =
      elim [
        | true ↦ refl
        | false ↦ rest
      ] in
      ap (λ b. cond b (Some (value x)) (lookup (same_name name) (map (λ x. (key x, value x)) xs))) (same_swap name (key x)) ∙ by (same_name (key x) name)

pub entry_found : (entries : List Typed) (name : Name) → lookup (same_name name) (map entry entries) ≡ type_in entries name
entry_found entries name = looked_up (λ (e : Typed). e.name) (λ e. e.of) entries name

-- what is found in the first ones is found in all
pub found_first : {X : Type 0} (test : X → Bool) (xs ys : List X) → IsSome (find test xs) → find test (xs ++ ys) ≡ find test xs
found_first test [] ys some = absurd (false≢true some)
found_first test (x ∷ xs) ys some = by (test x) (found_first test xs ys) some
  where
    by : (b : Bool) → (IsSome (find test xs) → find test (xs ++ ys) ≡ find test xs) → IsSome (cond b (Some x) (find test xs))
        → cond b (Some x) (find test (xs ++ ys)) ≡ cond b (Some x) (find test xs)
    by true rest some = refl
    by false rest some = rest some

module _ (names : Declarations) (p : Parts) (objects : List Typed) (agree : Declares names p objects) where
  pub parent_found : (t : Name) → parent_of names t ≡ type_in p.types t
  parent_found t = ap (lookup (same_name t)) agree.types ∙ entry_found p.types t

  pub object_found : (o : Name) → type_of names o ≡ type_in objects o
  object_found o = ap (lookup (same_name o)) agree.objects_named ∙ entry_found objects o

  -- an object that may be named has the type that the problem gives it
  pub object_typed : (o : Name) → IsSome (named objects o) → type_in p.objects o ≡ type_in objects o
  object_typed o some =
      ap (λ os. type_in os o) agree.all_objects ∙ ap (option_map (λ (e : Typed). e.of)) (found_first (λ (e : Typed). same_name e.name o) objects agree.others some)

  pub predicate_found : (name : Name) → predicate_of names name ≡ option_map (λ (d : Predicate). d.args) (predicate_named p name)
  predicate_found name = ap (lookup (same_name name)) agree.predicates ∙ looked_up (λ (d : Predicate). d.name) (λ d. d.args) p.predicates name

  pub function_found : (name : Name) → function_of names name ≡ option_map signature_of (function_named p name)
  function_found name = ap (lookup (same_name name)) agree.functions ∙ looked_up (λ (d : Function). d.name) signature_of p.functions name

  -- a chain of types is climbed
  climbs_above : (n : ℕ) (t due : Name) → Member due (chain p.types n t) → climbs names due n t ≡ true
  climbs_above zero t due (inl is) = (bytes_decides t due).1 (sym is)
  climbs_above zero t due (inr none) = absurd none
  climbs_above (suc n) t due (inl is) = rw ((bytes_decides t due).1 (sym is)) refl
  climbs_above (suc n) t due (inr above) =
      or_true (same_name t due) _ (ap (λ o. option_map_or (λ parent. climbs names due n parent) o false) (parent_found t) ∙ by (type_in p.types t) (λ u m. climbs_above n u due m) above)
    where
      by : (o : Option Name) → ((u : Name) → Member due (chain p.types n u) → climbs names due n u ≡ true)
          → Member due (unwrap_or (option_map (λ parent. chain p.types n parent) o) []) → option_map_or (λ parent. climbs names due n parent) o false ≡ true
      by None rest m = absurd m
      by (Some u) rest m = rest u m

  pub under_is : (t due : Name) → IsBelow p t due → is_under names t due ≡ true
  under_is t due below =
      let count : length names.types ≡ length p.types = ap length agree.types ∙ length-map p.types entry in
      or_true (is_object due) _ (ap (λ n. climbs names due n t) count ∙ climbs_above (length p.types) t due below)
