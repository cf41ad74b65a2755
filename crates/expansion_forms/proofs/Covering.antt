-- What is covered before stays covered under a quantifier.
use Rattle.std.proofs.Common.{◌≡◌, Bool, true, false, true≢false, cond, ◌||◌, List, [], ◌∷◌, ◌++◌, map, take, ℕ, zero, suc, Option, Some, None, option_map, IsSome, refl, ap, sym, ◌∙◌, subst, inl, inr, ⊎_elim}
use Rattle.std.specs.Prelude.{if◌then◌else◌}
use Rattle.std.specs.Option.{option_or}
use Rattle.std.specs.Cmp.Lexicographic.{bytes_decides}
use Rattle.up_text.specs.declared.name.Name.{Name}
use Rattle.up_text.specs.Names.{same_name}
use Rattle.up_text.specs.Lists.{Member, Differ}
use Rattle.up_tree.specs.declared.term.Typed.{Typed}
use Rattle.up_tree.specs.declared.problem.Parts.{Parts}
use Rattle.up_tree.specs.Objects.{world, Assignment, named, type_in, bind, assign, unassigned, tuples}
use Rattle.up_tree.specs.WellFormed.{IsWellFormed}
use Rattle.semantics_laws.specs.Replaced.{replacement, binds, under}
use Rattle.semantics_laws.proofs.Replacing.{assign-is}
use Rattle.up_eval.proofs.Types.{no_none, same_some, object_of}
use Rattle.expansion_laws.specs.Tuples.{AreTyped}
use Rattle.expansion_laws.proofs.Typed.{typed_tuples, no_fewer, less_one}
use Rattle.expansion_forms.specs.Covered.{AreObjects, IsObjectOf, StandsFor, Covers}

abbrev pub names : List Typed → List Name
names vars = map (λ (x : Typed). x.name) vars

-- a variable that the others don't name stands before or behind them
moved : (vars scope : List Typed) (x : Typed) (v : Name) → ¬ Member x.name (names vars) → named (vars ++ x ∷ scope) v ≡ named (x ∷ (vars ++ scope)) v
moved [] scope x v out = refl
moved (y ∷ vars) scope x v out = by (same_name y.name v) refl (same_name x.name v) refl (moved vars scope x v (λ m. out (inr m)))
  where
    by : (a : Bool) → same_name y.name v ≡ a → (b : Bool) → same_name x.name v ≡ b → named (vars ++ x ∷ scope) v ≡ cond b (Some x) (named (vars ++ scope) v)
        → cond a (Some y) (named (vars ++ x ∷ scope) v) ≡ cond b (Some x) (cond a (Some y) (named (vars ++ scope) v))
    by true is true same h = absurd (out (inl ((bytes_decides x.name v).0 same ∙ sym ((bytes_decides y.name v).0 is))))
    by true is false same h = refl
    by false is true same h = h
    by false is false same h = h

module _ (p : Parts) (outer : List Typed) where
  -- what is said of each variable in scope
  abbrev pub Covered : Assignment → List Typed → Type 0
  Covered e scope = (v of : Name) → type_in scope v ≡ Some of → StandsFor p (type_in outer v) of (e v)

  bind_covered : (scope : List Typed) (e : Assignment) (x : Typed) (o : Name) → Covered e scope → IsObjectOf p o x.of → Covered (bind x.name o e) (x ∷ scope)
  bind_covered scope e x o covered is v of typed = by (same_name x.name v) typed
    where
      by : (b : Bool) → option_map (λ (y : Typed). y.of) (cond b (Some x) (named scope v)) ≡ Some of → StandsFor p (type_in outer v) of (if b then Some o else e v)
      by true typed = subst (λ u. IsObjectOf p o u) (same_some x.of of typed) is
      by false typed = covered v of typed

  pub assign_covered : IsWellFormed p → (vars : List Typed) (tuple : List Name) (scope : List Typed) (e : Assignment) → Covered e scope → Differ (names vars) →
      AreTyped (world p) vars tuple → Covered (assign vars tuple e) (vars ++ scope)
  assign_covered well [] tuple scope e covered differ typed = covered
  assign_covered well (x ∷ vars) [] scope e covered differ typed = no_fewer _ typed.as_many
  assign_covered well (x ∷ vars) (o ∷ tuple) scope e covered differ typed = λ v of is.
      assign_covered well vars tuple (x ∷ scope) (bind x.name o e) (bind_covered scope e x o covered (object_of p well o x.of typed.typed.0)) differ.1
      (record { as_many = less_one _ _ typed.as_many; typed = typed.typed.1 }) v of
      (ap (option_map (λ (y : Typed). y.of)) (moved vars scope x v differ.0) ∙ is)

in_both : (vars scope outer : List Typed) → ((v : Name) → Member v (names outer) → Member v (names scope)) → (v : Name) → Member v (names (vars ++ outer)) → Member v (names (vars ++ scope))
in_both [] scope outer within v m = within v m
in_both (x ∷ vars) scope outer within v m = ⊎_elim inl (λ k. inr (in_both vars scope outer within v k)) m

in_scope : (vars scope outer : List Typed) → ((v : Name) → Member v (names outer) → Member v (names scope)) → (v : Name) → Member v (names outer) → Member v (names (vars ++ scope))
in_scope [] scope outer within v m = within v m
in_scope (x ∷ vars) scope outer within v m = inr (in_scope vars scope outer within v m)

-- what the tuple gives the bound variables covers them
pub covers_tuple : (p : Parts) → IsWellFormed p → (vars scope outer : List Typed) (e : Assignment) (tuple : List Name) → Covers p e scope outer → Differ (names vars) →
    Member tuple (tuples (world p) vars) → Covers p (assign vars tuple e) (vars ++ scope) outer
covers_tuple p well vars scope outer e tuple covers differ m = record {
  covered = assign_covered p outer well vars tuple scope e covers.covered differ ((typed_tuples (world p) vars tuple).0 m);
  within = in_scope vars scope outer covers.within;
}

-- and bound variables that stay cover themselves
under_covered : (p : Parts) (scope outer : List Typed) (e : Assignment) → Covered p outer e scope → (vars : List Typed) → (v of : Name) →
    type_in (vars ++ scope) v ≡ Some of → StandsFor p (type_in (vars ++ outer) v) of (under vars e v)
under_covered p scope outer e covered [] v of typed = covered v of typed
under_covered p scope outer e covered (x ∷ vars) v of typed = by (same_name x.name v) typed (under_covered p scope outer e covered vars v of)
  where
    by : (b : Bool) → option_map (λ (y : Typed). y.of) (cond b (Some x) (named (vars ++ scope) v)) ≡ Some of →
        (type_in (vars ++ scope) v ≡ Some of → StandsFor p (type_in (vars ++ outer) v) of (under vars e v)) →
        StandsFor p (option_map (λ (y : Typed). y.of) (cond b (Some x) (named (vars ++ outer) v))) of (if (b || binds vars v) then None else e v)
    by true typed rest = typed
    by false typed rest = rest typed

pub covers_under : (p : Parts) (vars scope outer : List Typed) (e : Assignment) → Covers p e scope outer → Covers p (under vars e) (vars ++ scope) (vars ++ outer)
covers_under p vars scope outer e covers =
    record { covered = under_covered p scope outer e covers.covered vars; within = in_both vars scope outer covers.within }

-- ---- the scopes that laws begin with

-- what is not assigned stands for itself
pub covers_itself : (p : Parts) (scope : List Typed) → Covers p unassigned scope scope
covers_itself p scope = record { covered = λ v of is. is; within = λ v m. m }

all_append : (vars : List Typed) → vars ++ [] ≡ vars
all_append [] = refl
all_append (x ∷ vars) = ap (λ l. x ∷ l) (all_append vars)

pub covers_arguments : (p : Parts) → IsWellFormed p → (params : List Typed) (args : List Name) → Differ (names params) → Member args (tuples (world p) params) →
    Covers p (replacement params args) params []
covers_arguments p well params args differ m =
    let e : Covers p (assign params args unassigned) (params ++ []) [] = covers_tuple p well params [] [] unassigned args (covers_itself p []) differ m in
    record {
      covered = λ v of is.
          subst (StandsFor p None of) (assign-is params args unassigned v ∙ only (replacement params args v))
          (e.covered v of (ap (λ scope. type_in scope v) (all_append params) ∙ is));
      within = λ v m. absurd m;
    }
  where
    only : (o : Option Name) → option_or o None ≡ o
    only None = refl
    only (Some o) = refl

-- ---- objects that may be named

pub some_named : (entries : List Typed) (v : Name) → IsSome (named entries v) → (of : Name) × (type_in entries v ≡ Some of)
some_named entries v some = by (named entries v) some
  where
    by : (found : Option Typed) → IsSome found → (of : Name) × (option_map (λ (x : Typed). x.of) found ≡ Some of)
    by None is = absurd (true≢false (sym is))
    by (Some x) is = (x.of, refl)

pub named_some : (entries : List Typed) (v of : Name) → type_in entries v ≡ Some of → IsSome (named entries v)
named_some entries v of typed = by (named entries v) typed
  where
    by : (found : Option Typed) → option_map (λ (x : Typed). x.of) found ≡ Some of → IsSome found
    by None is = no_none of is
    by (Some x) is = refl

-- the first objects are objects
pub first_objects : (p : Parts) (n : ℕ) → AreObjects p (take n p.objects)
first_objects p n o some = in_taken n p.objects some
  where
    later : (x : Typed) (b : Bool) (found more : Option Typed) → (IsSome found → IsSome more) → IsSome (cond b (Some x) found) → IsSome (cond b (Some x) more)
    later x true found more h is = refl
    later x false found more h is = h is

    in_taken : (n : ℕ) (entries : List Typed) → IsSome (named (take n entries) o) → IsSome (named entries o)
    in_taken zero entries is = absurd (true≢false (sym is))
    in_taken (suc n) [] is = is
    in_taken (suc n) (x ∷ entries) is = later x (same_name x.name o) (named (take n entries) o) (named entries o) (in_taken n entries) is

pub all_objects : (p : Parts) → AreObjects p p.objects
all_objects p o some = some
