-- What is looked up among declarations is what a problem's parts have.
use Rattle.std.proofs.Common.{◌≡◌, ℕ, zero, suc, Bool, true, false, true≢false, cond, ◌||◌, List, [], ◌∷◌, map, length, Option, Some, None, option_map, IsSomeAnd, refl, ap, sym, ◌∙◌, subst, inl, inr}
use Rattle.std.specs.Prelude.{unwrap_or, is_some, find, IsSome}
use Rattle.std.specs.Map.{lookup}
use Rattle.std.specs.Option.{option_map_or}
use Rattle.std.specs.Cmp.Lexicographic.{bytes_decides}
use Rattle.std.proofs.lemmas.List.{length-map}
use Rattle.up_text.specs.declared.name.Name.{Name}
use Rattle.up_text.specs.Names.{same_name}
use Rattle.up_text.specs.Lists.{Member}
use Rattle.up_tree.specs.declared.term.Typed.{Typed}
use Rattle.up_tree.specs.declared.problem.Parts.{Parts}
use Rattle.up_tree.specs.declared.problem.Predicate.{Predicate}
use Rattle.up_tree.specs.declared.problem.Function.{Function}
use Rattle.up_tree.specs.Objects.{named, type_in, chain, predicate_named, function_named}
use Rattle.up_tree.specs.WellFormed.{IsType, IsBelow}
use Rattle.up_phrase.specs.declared.names.Signature.{Signature}
use Rattle.up_phrase.specs.Declarations.{Declarations}
use Rattle.up_phrase.specs.Lookups.{parent_of, predicate_of, function_of, is_type, climbs, is_under}
use Rattle.up_phrase.specs.Named.{is_object, object}
use Rattle.up_phrase.specs.Scopes.{typed}
use Rattle.up_check.specs.Lists.{predicate, function}
use Rattle.wellformed_phrases.specs.Agreement.{Agree}

-- a test of names goes both ways
pub same_turned : (a b : Name) → same_name a b ≡ same_name b a
same_turned a b = by (same_name a b) refl (same_name b a) refl
  where
    by : (x : Bool) → same_name a b ≡ x → (y : Bool) → same_name b a ≡ y → x ≡ y
    by true p true q = refl
    by true p false q = absurd (true≢false (sym ((bytes_decides b a).1 (sym ((bytes_decides a b).0 p))) ∙ q))
    by false p true q = absurd (true≢false (sym ((bytes_decides a b).1 (sym ((bytes_decides b a).0 q))) ∙ p))
    by false p false q = refl

-- an entry that is made of one in a table is found where that is
module _ {X Y : Type 0} (make : Name × X → Y) (name_in : Y → Name) (named_so : (e : Name × X) → name_in (make e) ≡ e.0) where
  pub found_made : (name : Name) (es : List (Name × X)) (x : X) → lookup (same_name name) es ≡ Some x
      → find (λ y. same_name (name_in y) name) (map make es) ≡ Some (make (name, x))
  found_made name [] x is = absurd (true≢false (sym (ap is_some is)))
  found_made name (e ∷ es) x is = by (same_name name e.0) refl is (found_made name es x)
    where
      test : (b : Bool) → same_name name e.0 ≡ b → same_name (name_in (make e)) name ≡ b
      test b is = ap (λ n. same_name n name) (named_so e) ∙ same_turned e.0 name ∙ is

      by : (b : Bool) → same_name name e.0 ≡ b → cond b (Some e.1) (lookup (same_name name) es) ≡ Some x
          → (lookup (same_name name) es ≡ Some x → find (λ y. same_name (name_in y) name) (map make es) ≡ Some (make (name, x)))
          → cond (same_name (name_in (make e)) name) (Some (make e)) (find (λ y. same_name (name_in y) name) (map make es)) ≡ Some (make (name, x))
      by true same here rest =
          let at_name : name ≡ e.0 = (bytes_decides name e.0).0 same in
          let value : e.1 ≡ x = ap (λ o. unwrap_or o x) here in
          rw (test true same) (λ i. Some (make (sym at_name i, value i)))
      by false other here rest = rw (test false other) (rest here)

-- the type beside a name
pub type_found : (es : List (Name × Name)) (name : Name) → type_in (map typed es) name ≡ lookup (same_name name) es
type_found [] name = refl
type_found (e ∷ es) name = by (same_name name e.0) refl (type_found es name)
  where
    by : (b : Bool) → same_name name e.0 ≡ b → type_in (map typed es) name ≡ lookup (same_name name) es
        → option_map (λ entry. entry.of) (cond (same_name e.0 name) (Some (typed e)) (named (map typed es) name)) ≡ cond (same_name name e.0) (Some e.1) (lookup (same_name name) es)
    by true same rest = rw (same_turned e.0 name, same) refl
    by false other rest = rw (same_turned e.0 name, other) rest

pub is_there : {X Y : Type 0} (f : X → Y) (o : Option X) (y : Y) → option_map f o ≡ Some y → IsSome o
is_there f None y e = absurd (true≢false (sym (ap is_some e)))
is_there f (Some x) y e = refl

pub at_some : {X : Type 0} (o : Option X) (x : X) (P : X → Type 0) → o ≡ Some x → P x → IsSomeAnd o P
at_some o x P is h = subst (λ v. IsSomeAnd v P) (sym is) h

module _ (names : Declarations) (p : Parts) (objects : List Typed) (agree : Agree names p objects) where
  pub parent_is : (name : Name) → type_in p.types name ≡ parent_of names name
  parent_is name = ap (λ types. type_in types name) agree.types ∙ type_found names.types name

  pub predicate_is : (name : Name) (args : List Name) → predicate_of names name ≡ Some args → predicate_named p name ≡ Some (predicate (name, args))
  predicate_is name args is =
      ap (λ ds. find (λ (d : Predicate). same_name d.name name) ds) agree.predicates ∙ found_made predicate (λ d. d.name) (λ e. refl) name names.predicates args is

  pub function_is : (name : Name) (signature : Signature) → function_of names name ≡ Some signature → function_named p name ≡ Some (function (name, signature))
  function_is name signature is =
      ap (λ ds. find (λ (d : Function). same_name d.name name) ds) agree.functions ∙ found_made function (λ d. d.name) (λ e. refl) name names.functions signature is

  climbed : (due : Name) (n : ℕ) (name : Name) → climbs names due n name ≡ true → Member due (chain p.types n name)
  climbed due zero name e = inl (sym ((bytes_decides name due).0 e))
  climbed due (suc n) name e = by (same_name name due) refl e (climbed due n)
    where
      up : (o : Option Name) → parent_of names name ≡ o → option_map_or (λ parent. climbs names due n parent) o false ≡ true
          → ((parent : Name) → climbs names due n parent ≡ true → Member due (chain p.types n parent))
          → Member due (unwrap_or (option_map (λ parent. chain p.types n parent) (type_in p.types name)) [])
      up None is e rest = absurd (true≢false (sym e))
      up (Some parent) is e rest = rw (parent_is name, is) (rest parent e)

      by : (b : Bool) → same_name name due ≡ b → (b || option_map_or (λ parent. climbs names due n parent) (parent_of names name) false) ≡ true
          → ((parent : Name) → climbs names due n parent ≡ true → Member due (chain p.types n parent))
          → Member due (chain p.types (suc n) name)
      by true same e rest = inl (sym ((bytes_decides name due).0 same))
      by false other e rest = inr (up (parent_of names name) refl e rest)

  size : length names.types ≡ length p.types
  size = rw (agree.types, length-map) refl

  -- a type that stands under another is below it
  pub under_is : (of due : Name) → IsType p of → is_under names of due ≡ true → IsBelow p of due
  under_is of due known e = by (is_object due) refl e
    where
      by : (b : Bool) → is_object due ≡ b → (b || climbs names due (length names.types) of) ≡ true → IsBelow p of due
      by true top e = subst (IsBelow p of) (sym ((bytes_decides due object).0 top)) (agree.below_top of known)
      by false other e = subst (λ n. Member due (chain p.types n of)) size (climbed due (length names.types) of e)

  pub type_is : (t : Name) → is_type names t ≡ true → IsType p t
  type_is t e = by (is_object t) refl e
    where
      known : (o : Option Name) → parent_of names t ≡ o → is_some o ≡ true → IsSome (named p.types t)
      known None is e = absurd (true≢false (sym e))
      known (Some parent) is e = is_there (λ (entry : Typed). entry.of) (named p.types t) parent (parent_is t ∙ is)

      by : (b : Bool) → is_object t ≡ b → (b || is_some (parent_of names t)) ≡ true → IsType p t
      by true top e = inl ((bytes_decides t object).0 top)
      by false other e = inr (known (parent_of names t) refl e)
