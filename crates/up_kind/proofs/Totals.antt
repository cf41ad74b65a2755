-- Typed tuples by their first argument.
use Rattle.std.proofs.Common.{◌≡◌, ℕ, get_or, suc, ◌+◌, ◌≤◌, Bool, true, false, ◌||◌, ◌&&◌, not, cond, List, [], ◌∷◌, ◌++◌, map, filter, take, length, append_assoc, None, Some, refl, ap, subst, sym, ◌∙◌, arith}
use Rattle.std.specs.Prelude.{flat_map, nat_eq, find}
use Rattle.std.specs.List.{list_all, list_any}
use Rattle.std.specs.Prelude.{◌<◌}
use Rattle.std.proofs.lemmas.List.Folds.{list_any_more}
use Rattle.indexmap.specs.IndexSet.{IndexSet, contains}
use Rattle.up_tree.specs.declared.problem.ValueFact.{ValueFact}
use Rattle.up_kind.specs.declared.ground.Ground.{Ground}
use Rattle.up_kind.specs.Keys.{same_ground, is_value}
use Rattle.std.specs.Cmp.Lexicographic.{pointwise}
use Rattle.std.proofs.lemmas.Bool.{false≢true, and_parts}
use Rattle.std.proofs.lemmas.List.Folds.{list_all-append, list_all-map}
use Rattle.std.proofs.lemmas.Slice.Eq.{bytes_eq-Decides}
use Rattle.up_text.specs.declared.name.Name.{Name}
use Rattle.up_text.specs.Names.{same_name}
use Rattle.up_tree.specs.declared.problem.Parts.{Parts}
use Rattle.up_tree.specs.declared.term.Typed.{Typed}
use Rattle.up_tree.specs.Objects.{world, is_below, objects_of}
use Rattle.up_kind.specs.Carried.{type_tuples, has_value, is_total}
use Rattle.up_tree.specs.declared.problem.Function.{Function}
use Rattle.up_kind.specs.Values.{has_object, are_inhabited, covers, covers_with, HasValues}

-- ---- tests of some object and of all types

pub inhabited_none : (p : Parts) → are_inhabited p [] ≡ true
inhabited_none p = refl

pub inhabited_more : (p : Parts) (of : Name) (types : List Name) → are_inhabited p (of ∷ types) ≡ (has_object p of && are_inhabited p types)
inhabited_more p of types = refl

-- ---- all tuples

and_true : (b : Bool) → (b && true) ≡ b
and_true true = refl
and_true false = refl

append_none : (xs : List Name) → xs ++ [] ≡ xs
append_none [] = refl
append_none (x ∷ xs) = ap (λ behind. x ∷ behind) (append_none xs)

pub covers_none : (p : Parts) (f : Name) (prefix : List Name) → covers p f prefix [] ≡ has_value p f prefix
unfolding covers
covers_none p f prefix = and_true (has_value p f (prefix ++ [])) ∙ ap (has_value p f) (append_none prefix)

pub covers_ends : (p : Parts) (f : Name) (prefix types : List Name) → length types ≡ 0 → covers p f prefix types ≡ has_value p f prefix
covers_ends p f prefix [] ends = covers_none p f prefix
covers_ends p f prefix (t ∷ types) ends = absurd (omega arith)

all_flat : (t : List Name → Bool) (g : Name → List (List Name)) (xs : List Name)
    → list_all t (flat_map g xs) ≡ list_all (λ x. list_all t (g x)) xs
all_flat t g [] = refl
all_flat t g (x ∷ xs) = list_all-append t (g x) (flat_map g xs) ∙ ap (λ b. list_all t (g x) && b) (all_flat t g xs)

all_kept : (t : Name → Bool) (q : Typed → Bool) (xs : List Typed)
    → list_all t (map (λ (o : Typed). o.name) (filter q xs)) ≡ list_all (λ o. not (q o) || t o.name) xs
all_kept t q [] = refl
all_kept t q (x ∷ xs) = by (q x) (all_kept t q xs)
  where
    by : (b : Bool) → list_all t (map (λ (o : Typed). o.name) (filter q xs)) ≡ list_all (λ o. not (q o) || t o.name) xs
        → list_all t (map (λ (o : Typed). o.name) (cond b (x ∷ filter q xs) (filter q xs)))
        ≡ ((not b || t x.name) && list_all (λ o. not (q o) || t o.name) xs)
    by true behind = ap (λ b. t x.name && b) behind
    by false behind = behind

-- tuples by their first object
all_tuples : (p : Parts) (t : List Name → Bool) (of : Name) (types : List Name)
    → list_all t (type_tuples p (of ∷ types))
    ≡ list_all (λ o. not (is_below (world p) o.of of) || list_all (λ rest. t (o.name ∷ rest)) (type_tuples p types)) p.objects
all_tuples p t of types =
    all_flat t (λ o. map (λ rest. o ∷ rest) (type_tuples p types)) (objects_of (world p) of)
    ∙ (λ i. list_all (λ o. list_all-map t (λ rest. o ∷ rest) (type_tuples p types) i) (objects_of (world p) of))
    ∙ all_kept (λ o. list_all (λ rest. t (o ∷ rest)) (type_tuples p types)) (λ e. is_below (world p) e.of of) p.objects

pub covers_more : (p : Parts) (f : Name) (prefix types : List Name) (of : Name)
    → covers p f prefix (of ∷ types) ≡ list_all (covers_with p f prefix types of) p.objects
unfolding covers covers_with
covers_more p f prefix types of =
    all_tuples p (λ rest. has_value p f (prefix ++ rest)) of types
    ∙ (λ i. list_all (λ o. not (is_below (world p) o.of of)
    || list_all (λ rest. has_value p f (sym (append_assoc prefix (o.name ∷ []) rest) i)) (type_tuples p types)) p.objects)

all_or : (q : Typed → Bool) (b : Bool) (xs : List Typed) → list_all (λ o. not (q o) || b) xs ≡ (not (list_any q xs) || b)
all_or q b [] = refl
all_or q b (x ∷ xs) = by (q x) b (all_or q b xs)
  where
    by : (a b : Bool) → list_all (λ o. not (q o) || b) xs ≡ (not (list_any q xs) || b)
        → ((not a || b) && list_all (λ o. not (q o) || b) xs) ≡ (not (a || list_any q xs) || b)
    by true true behind = behind ∙ or_true (not (list_any q xs))
      where
        or_true : (c : Bool) → (c || true) ≡ true
        or_true true = refl
        or_true false = refl
    by true false behind = refl
    by false b behind = behind

not_and : (a b : Bool) → (not a || not b) ≡ not (a && b)
not_and true b = refl
not_and false b = refl

no_tuples : (p : Parts) (types : List Name) → list_all (λ rest. false) (type_tuples p types) ≡ not (are_inhabited p types)
unfolding has_object
no_tuples p [] = refl
no_tuples p (of ∷ types) =
    all_tuples p (λ rest. false) of types
    ∙ all_or (λ o. is_below (world p) o.of of) (list_all (λ rest. false) (type_tuples p types)) p.objects
    ∙ ap (λ b. not (list_any (λ o. is_below (world p) o.of of) p.objects) || b) (no_tuples p types)
    ∙ not_and (list_any (λ o. is_below (world p) o.of of) p.objects) (list_all (has_object p) types)

pub with_other : (p : Parts) (f : Name) (prefix types : List Name) (of : Name) (o : Typed) → is_below (world p) o.of of ≡ false
    → covers_with p f prefix types of o ≡ true
unfolding covers_with
with_other p f prefix types of o off = ap (λ b. not b || covers p f (prefix ++ o.name ∷ []) types) off

pub with_on : (p : Parts) (f : Name) (so_far types : List Name) (of : Name) (o : Typed) → is_below (world p) o.of of ≡ true
    → covers_with p f so_far types of o ≡ covers p f (so_far ++ o.name ∷ []) types
unfolding covers_with
with_on p f so_far types of o on = ap (λ b. not b || covers p f (so_far ++ o.name ∷ []) types) on

all_none : (t : List Name → Bool) (xs : List (List Name)) → list_all (λ rest. false) xs ≡ true → list_all t xs ≡ true
all_none t [] is = refl
all_none t (x ∷ xs) is = absurd (false≢true is)

-- where some type has no object, no list is to be covered
pub covers_empty : (p : Parts) (f : Name) (so_far types : List Name) → are_inhabited p types ≡ false → covers p f so_far types ≡ true
unfolding covers
covers_empty p f so_far types none =
    all_none (λ rest. has_value p f (so_far ++ rest)) (type_tuples p types) (no_tuples p types ∙ ap not none)

pub total_is : (p : Parts) (d : Function) → is_total p d ≡ covers p d.name [] d.args
unfolding covers
total_is p d = refl

pub values_more : {S : Type 0} (old new : IndexSet Ground S) (values : List ValueFact) (i : ℕ) (v : ValueFact) (key : Ground) → i < length values → v ≡ get_or values i v
    → key.name ≡ v.function → key.args.items ≡ v.args → ((q : Ground) → contains same_ground new q ≡ cond (same_ground key q) true (contains same_ground old q))
    → HasValues old (take i values) → HasValues new (take (i + 1) values)
values_more old new values i v key below is name args updated has = record {
  each = λ q.
      updated q ∙ by (same_ground key q) (contains same_ground old q)
      ∙ (λ k. has.each q k || (same_name (name k) q.name && pointwise same_name (args k) q.args.items))
      ∙ (λ k. list_any (is_value q) (take i values) || is_value q (is k))
      ∙ sym (list_any_more (is_value q) values i v below);
}
  where
    by : (a b : Bool) → cond a true b ≡ (b || a)
    by true true = refl
    by true false = refl
    by false true = refl
    by false false = refl

pub ruleset totals = (inhabited_none, inhabited_more, covers_ends, covers_more, with_other, with_on)
