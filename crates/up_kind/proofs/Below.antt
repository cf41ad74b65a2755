-- Types above types: a chain needs no more parents than there are types, and what stands above a parent stands above its types.
use Rattle.std.proofs.Common.{◌≡◌, ℕ, zero, suc, ◌≤◌, ◌+◌, Bool, true, false, ◌||◌, ◌&&◌, not, cond, List, [], ◌∷◌, filter, length, Option, None, Some, option_map, refl, ap, subst, sym, ◌∙◌, arith}
use Rattle.std.specs.Prelude.{unwrap_or, find}
use Rattle.std.specs.List.{list_any}
use Rattle.std.proofs.lemmas.Bool.{false≢true}
use Rattle.std.proofs.lemmas.Slice.Eq.{bytes_eq-Decides}
use Rattle.up_text.specs.declared.name.Name.{Name}
use Rattle.up_text.specs.Names.{same_name}
use Rattle.up_tree.specs.declared.term.Typed.{Typed}
use Rattle.up_tree.specs.declared.problem.Parts.{Parts}
use Rattle.up_tree.specs.Objects.{World, world, type_in, chain, is_below}
use Rattle.up_kind.specs.Meeting.{some_of_both}
use Rattle.up_kind.specs.Values.{has_object}

pub is_same : (a : Name) → same_name a a ≡ true
is_same a = (bytes_eq-Decides a a).1 refl

pub same_is : (a b : Name) → same_name a b ≡ true → a ≡ b
same_is a b is = (bytes_eq-Decides a b).0 is

pub or_left : (a b : Bool) → a ≡ true → (a || b) ≡ true
or_left true b is = refl
or_left false b is = absurd (false≢true is)

pub or_right : (a b : Bool) → b ≡ true → (a || b) ≡ true
or_right true b is = refl
or_right false b is = is

-- ---- chains of types

abbrev pub holds : List Typed → ℕ → Name → Name → Type 0
holds types n t above = list_any (same_name above) (chain types n t) ≡ true

-- the chain of a type's parent, where there is one
abbrev pub behind_of : List Typed → ℕ → Option Name → List Name
behind_of types n parent = unwrap_or (option_map (λ above. chain types n above) parent) []

pub begins_chain : (types : List Typed) (n : ℕ) (t : Name) → holds types n t t
begins_chain types zero t = or_left (same_name t t) false (is_same t)
begins_chain types (suc n) t = or_left (same_name t t) (list_any (same_name t) (behind_of types n (type_in types t))) (is_same t)

pub chain_grows : (types : List Typed) (n m : ℕ) (t above : Name) → n ≤ m → holds types n t above → holds types m t above
chain_grows types zero zero t above fits is = is
chain_grows types zero (suc m) t above fits is = by (same_name above t) is
  where
    by : (b : Bool) → (b || false) ≡ true → (b || list_any (same_name above) (behind_of types m (type_in types t))) ≡ true
    by true is = refl
    by false is = absurd (false≢true is)
chain_grows types (suc n) zero t above fits is = absurd (omega arith)
chain_grows types (suc n) (suc m) t above fits is =
    by (same_name above t) (type_in types t) is (λ u. chain_grows types n m u above (omega arith))
  where
    by : (b : Bool) (parent : Option Name) → (b || list_any (same_name above) (behind_of types n parent)) ≡ true
        → ((u : Name) → holds types n u above → holds types m u above)
        → (b || list_any (same_name above) (behind_of types m parent)) ≡ true
    by true parent is behind = refl
    by false None is behind = is
    by false (Some u) is behind = behind u is

-- one parent up
step : (types : List Typed) (n : ℕ) (t u above : Name) → type_in types t ≡ Some u → holds types n u above → holds types (suc n) t above
step types n t u above parent is =
    or_right (same_name above t) (list_any (same_name above) (behind_of types n (type_in types t)))
    (subst (λ (p : Option Name). list_any (same_name above) (behind_of types n p) ≡ true) (sym parent) is)

joined : (types : List Typed) (n m : ℕ) (a b c : Name) → holds types n a b → holds types m b c → holds types (n + m) a c
joined types zero m a b c is behind = chain_grows types m (zero + m) a c (omega arith) (by (same_name b a) refl is)
  where
    by : (x : Bool) → same_name b a ≡ x → (x || false) ≡ true → holds types m a c
    by true same is = subst (λ u. holds types m u c) (same_is b a same) behind
    by false same is = absurd (false≢true is)
joined types (suc n) m a b c is behind =
    by (same_name b a) refl (type_in types a) refl is (λ u h. joined types n m u b c h behind)
  where
    by : (x : Bool) → same_name b a ≡ x → (parent : Option Name) → type_in types a ≡ parent
        → (x || list_any (same_name b) (behind_of types n parent)) ≡ true
        → ((u : Name) → holds types n u b → holds types (n + m) u c) → holds types (suc n + m) a c
    by true same parent at is more = subst (λ u. holds types (suc n + m) u c) (same_is b a same) (chain_grows types m (suc n + m) b c (omega arith) behind)
    by false same None at is more = absurd (false≢true is)
    by false same (Some u) at is more =
        chain_grows types (suc (n + m)) (suc n + m) a c (omega arith) (step types (n + m) a u c at (more u is))

-- ---- a chain without a repeat

-- the entries of other names
without : Name → List Typed → List Typed
without t types = filter (λ (e : Typed). not (same_name e.name t)) types

of_found : Option Typed → Option Name
of_found found = option_map (λ (e : Typed). e.of) found

other_entry : (types : List Typed) (t x : Name) → same_name t x ≡ false → type_in (without t types) x ≡ type_in types x
unfolding without
other_entry [] t x other = refl
other_entry (e ∷ types) t x other = by (same_name e.name t) refl (other_entry types t x other)
  where
    at : Bool → List Typed → Option Name
    at b rest = option_map (λ (e : Typed). e.of) (cond b (Some e) (find (λ (e : Typed). same_name e.name x) rest))

    skipped : same_name e.name t ≡ true → same_name e.name x ≡ false
    skipped is = subst (λ u. same_name u x ≡ false) (sym (same_is e.name t is)) other

    by : (b : Bool) → same_name e.name t ≡ b → type_in (without t types) x ≡ type_in types x
        → type_in (cond (not b) (e ∷ without t types) (without t types)) x ≡ at (same_name e.name x) types
    by true is behind = behind ∙ ap (λ c. at c types) (sym (skipped is))
    by false is behind = kept (same_name e.name x) behind
      where
        kept : (c : Bool) → type_in (without t types) x ≡ type_in types x → at c (without t types) ≡ at c types
        kept true behind = refl
        kept false behind = behind

no_entry : (types : List Typed) (t : Name) → type_in (without t types) t ≡ None
unfolding without
no_entry [] t = refl
no_entry (e ∷ types) t = by (same_name e.name t) refl (no_entry types t)
  where
    by : (b : Bool) → same_name e.name t ≡ b → type_in (without t types) t ≡ None
        → type_in (cond (not b) (e ∷ without t types) (without t types)) t ≡ None
    by true is behind = behind
    by false is behind =
        ap (λ c. option_map (λ (e : Typed). e.of) (cond c (Some e) (find (λ (e : Typed). same_name e.name t) (without t types)))) is ∙ behind

no_longer : (types : List Typed) (t : Name) → length (without t types) ≤ length types
unfolding without
no_longer [] t = omega arith
no_longer (e ∷ types) t = by (same_name e.name t) (no_longer types t)
  where
    by : (b : Bool) → length (without t types) ≤ length types
        → length (cond (not b) (e ∷ without t types) (without t types)) ≤ suc (length types)
    by true behind = omega arith
    by false behind = omega arith

shorter : (types : List Typed) (t u : Name) → type_in types t ≡ Some u → suc (length (without t types)) ≤ length types
unfolding without
shorter [] t u is = absurd cc
shorter (e ∷ types) t u is = by (same_name e.name t) is (no_longer types t) (shorter types t u)
  where
    by : (b : Bool) → option_map (λ (e : Typed). e.of) (cond b (Some e) (find (λ (e : Typed). same_name e.name t) types)) ≡ Some u
        → length (without t types) ≤ length types
        → (type_in types t ≡ Some u → suc (length (without t types)) ≤ length types)
        → suc (length (cond (not b) (e ∷ without t types) (without t types))) ≤ suc (length types)
    by true is less behind = omega arith
    by false is less behind = let rest = behind is in omega arith

lifted : (types : List Typed) (t : Name) (n : ℕ) (u above : Name) → holds (without t types) n u above → holds types n u above
lifted types t zero u above is = is
lifted types t (suc n) u above is = by (same_name t u) refl (λ v. lifted types t n v above)
  where
    first : (b : Bool) (parent : Option Name) → parent ≡ None → (b || list_any (same_name above) (behind_of (without t types) n parent)) ≡ true
        → (more : List Name) → (b || list_any (same_name above) more) ≡ true
    first true parent none is more = refl
    first false parent none is more =
        absurd (false≢true (sym (ap (λ (p : Option Name). list_any (same_name above) (behind_of (without t types) n p)) none) ∙ is))

    later : (b : Bool) (parent : Option Name) → (b || list_any (same_name above) (behind_of (without t types) n parent)) ≡ true
        → ((v : Name) → holds (without t types) n v above → holds types n v above)
        → (b || list_any (same_name above) (behind_of types n parent)) ≡ true
    later true parent is behind = refl
    later false None is behind = is
    later false (Some v) is behind = behind v is

    by : (b : Bool) → same_name t u ≡ b → ((v : Name) → holds (without t types) n v above → holds types n v above) → holds types (suc n) u above
    by true same behind =
        first (same_name above u) (type_in (without t types) u) (subst (λ v. type_in (without t types) v ≡ None) (same_is t u same) (no_entry types t)) is
        (behind_of types n (type_in types u))
    by false other behind =
        later (same_name above u) (type_in types u)
        (subst (λ (p : Option Name). (same_name above u || list_any (same_name above) (behind_of (without t types) n p)) ≡ true) (other_entry types t u other) is)
        behind

-- a chain that doesn't pass the type, or one from it
data Way (types : List Typed) (t : Name) (n : ℕ) (u above : Name) : Type 0 where
  past : holds (without t types) n u above → Way types t n u above
  again : (m : ℕ) → m ≤ n → holds types m t above → Way types t n u above

longer : (types : List Typed) (t u v above : Name) (n : ℕ) → same_name t u ≡ false → type_in types u ≡ Some v → Way types t n v above → Way types t (suc n) u above
longer types t u v above n other at (past h) =
    past (step (without t types) n u v above (other_entry types t u other ∙ at) h)
longer types t u v above n other at (again m fits h) = again m (omega arith) h

way : (types : List Typed) (t : Name) (n : ℕ) (u above : Name) → holds types n u above → Way types t n u above
way types t zero u above is = past is
way types t (suc n) u above is =
    by (same_name t u) refl (same_name above u) refl (type_in types u) refl is (λ v. way types t n v above)
  where
    by : (b : Bool) → same_name t u ≡ b → (x : Bool) → same_name above u ≡ x → (parent : Option Name) → type_in types u ≡ parent
        → (x || list_any (same_name above) (behind_of types n parent)) ≡ true
        → ((v : Name) → holds types n v above → Way types t n v above) → Way types t (suc n) u above
    by true same x here parent at h behind = again (suc n) (omega arith) (subst (λ v. holds types (suc n) v above) (sym (same_is t u same)) is)
    by false other true here parent at h behind =
        past (or_left (same_name above u) (list_any (same_name above) (behind_of (without t types) n (type_in (without t types) u))) here)
    by false other false here None at h behind = absurd (false≢true h)
    by false other false here (Some v) at h behind = longer types t u v above n other at (behind v h)

abbrev Fits : List Typed → Type 0
Fits types = (n : ℕ) (a b : Name) → holds types n a b → holds types (length types) a b

climbed : (types : List Typed) → ((t : Name) → suc (length (without t types)) ≤ length types → Fits (without t types))
    → (j n : ℕ) → n ≤ j → (a b : Name) → holds types n a b → holds types (length types) a b
climbed types less j zero fits a b is = chain_grows types zero (length types) a b (omega arith) is
climbed types less zero (suc n) fits a b is = absurd (omega arith)
climbed types less (suc j) (suc n) fits a b is =
    by (same_name b a) refl (type_in types a) refl is (λ m below h. climbed types less j m below a b h)
  where
    on : (u : Name) → type_in types a ≡ Some u → ((m : ℕ) → m ≤ j → holds types m a b → holds types (length types) a b) → Way types a n u b
        → holds types (length types) a b
    on u at again_from (past h) =
        let room = shorter types a u at in
        chain_grows types (suc (length (without a types))) (length types) a b room
        (step types (length (without a types)) a u b at (lifted types a (length (without a types)) u b (less a room n u b h)))
    on u at again_from (again m within h) = again_from m (omega arith) h

    by : (x : Bool) → same_name b a ≡ x → (parent : Option Name) → type_in types a ≡ parent
        → (x || list_any (same_name b) (behind_of types n parent)) ≡ true
        → ((m : ℕ) → m ≤ j → holds types m a b → holds types (length types) a b) → holds types (length types) a b
    by true same parent at h more = subst (λ u. holds types (length types) u b) (same_is b a same) (begins_chain types (length types) b)
    by false other None at h more = absurd (false≢true h)
    by false other (Some u) at h more = on u at more (way types a n u b h)

fitted : (k : ℕ) (types : List Typed) → length types ≤ k → Fits types
fitted zero types few n = climbed types (λ t room. absurd (omega arith)) n n (omega arith)
fitted (suc k) types few n = climbed types (λ t room. fitted k (without t types) (omega arith)) n n (omega arith)

-- no chain needs more parents than there are types
pub fit : (types : List Typed) → Fits types
fit types = fitted (length types) types (omega arith)

pub below_all : (types : List Typed) (a b c : Name) → holds types (length types) a b → holds types (length types) b c → holds types (length types) a c
below_all types a b c up on = fit types (length types + length types) a c (joined types (length types) (length types) a b c up on)

pub below_trans : (w : World) (a b c : Name) → is_below w a b ≡ true → is_below w b c ≡ true → is_below w a c ≡ true
below_trans w a b c = below_all w.types a b c

-- ---- one of two types above one type

-- the first type's chain holds the other, or the other's the first
abbrev Linear : List Typed → ℕ → Name → Name → Type 0
Linear types m a b = (list_any (same_name b) (chain types m a) || list_any (same_name a) (chain types m b)) ≡ true

from_a : (types : List Typed) (n m : ℕ) (t a b : Name) → n ≤ m → holds types n t b → same_name a t ≡ true → Linear types m a b
from_a types n m t a b fits has_b is =
    or_left (list_any (same_name b) (chain types m a)) (list_any (same_name a) (chain types m b))
    (subst (λ u. holds types m u b) (sym (same_is a t is)) (chain_grows types n m t b fits has_b))

from_b : (types : List Typed) (n m : ℕ) (t a b : Name) → n ≤ m → holds types n t a → same_name b t ≡ true → Linear types m a b
from_b types n m t a b fits has_a is =
    or_right (list_any (same_name b) (chain types m a)) (list_any (same_name a) (chain types m b))
    (subst (λ u. holds types m u a) (sym (same_is b t is)) (chain_grows types n m t a fits has_a))

-- of two types in one chain one is in the chain of the other
chain_linear : (types : List Typed) (n m : ℕ) (t a b : Name) → n ≤ m → holds types n t a → holds types n t b → Linear types m a b
chain_linear types zero m t a b fits has_a has_b = by (same_name a t) refl has_a
  where
    by : (x : Bool) → same_name a t ≡ x → (x || false) ≡ true → Linear types m a b
    by true is has = from_a types zero m t a b fits has_b is
    by false is has = absurd (false≢true has)
chain_linear types (suc n) m t a b fits has_a has_b =
    by (same_name a t) refl (same_name b t) refl (type_in types t) has_a has_b (λ u. chain_linear types n m u a b (omega arith))
  where
    by : (x : Bool) → same_name a t ≡ x → (y : Bool) → same_name b t ≡ y → (parent : Option Name)
        → (x || list_any (same_name a) (behind_of types n parent)) ≡ true
        → (y || list_any (same_name b) (behind_of types n parent)) ≡ true
        → ((u : Name) → holds types n u a → holds types n u b → Linear types m a b) → Linear types m a b
    by true is y of_b parent in_a in_b behind = from_a types (suc n) m t a b fits has_b is
    by false is true of_b parent in_a in_b behind = from_b types (suc n) m t a b fits has_a of_b
    by false is false of_b None in_a in_b behind = absurd (false≢true in_a)
    by false is false of_b (Some u) in_a in_b behind = behind u in_a in_b

below_both : (w : World) (t a b : Name) → is_below w t a ≡ true → is_below w t b ≡ true → (is_below w a b || is_below w b a) ≡ true
below_both w t a b = chain_linear w.types (length w.types) (length w.types) t a b (omega arith)

-- ---- objects of two types

any_both : (q r : Typed → Bool) → ((o : Typed) → q o ≡ true → r o ≡ true) → (xs : List Typed) → list_any (λ o. q o && r o) xs ≡ list_any q xs
any_both q r law [] = refl
any_both q r law (x ∷ xs) = by (q x) (r x) (law x) (any_both q r law xs)
  where
    by : (a b : Bool) → (a ≡ true → b ≡ true) → list_any (λ o. q o && r o) xs ≡ list_any q xs
        → ((a && b) || list_any (λ o. q o && r o) xs) ≡ (a || list_any q xs)
    by true true law behind = refl
    by true false law behind = absurd (false≢true (law refl))
    by false b law behind = behind

any_turned : (q r : Typed → Bool) (xs : List Typed) → list_any (λ o. q o && r o) xs ≡ list_any (λ o. r o && q o) xs
any_turned q r [] = refl
any_turned q r (x ∷ xs) = by (q x) (r x) (any_turned q r xs)
  where
    by : (a b : Bool) → list_any (λ o. q o && r o) xs ≡ list_any (λ o. r o && q o) xs
        → ((a && b) || list_any (λ o. q o && r o) xs) ≡ ((b && a) || list_any (λ o. r o && q o) xs)
    by true true behind = refl
    by true false behind = behind
    by false true behind = behind
    by false false behind = behind

any_none : (q r : Typed → Bool) → ((o : Typed) → q o ≡ true → r o ≡ true → ⊥) → (xs : List Typed) → list_any (λ o. q o && r o) xs ≡ false
any_none q r law [] = refl
any_none q r law (x ∷ xs) = by (q x) (r x) (law x) (any_none q r law xs)
  where
    by : (a b : Bool) → (a ≡ true → b ≡ true → ⊥) → list_any (λ o. q o && r o) xs ≡ false
        → ((a && b) || list_any (λ o. q o && r o) xs) ≡ false
    by true true law behind = absurd (law refl refl)
    by true false law behind = behind
    by false b law behind = behind

-- a type with objects that stands below the other, or the other so
pub both_lower : (p : Parts) (of other : Name) → is_below (world p) of other ≡ true → some_of_both p of other ≡ has_object p of
unfolding has_object
both_lower p of other is =
    any_both (λ o. is_below (world p) o.of of) (λ o. is_below (world p) o.of other) (λ o on. below_trans (world p) o.of of other on is) p.objects

pub both_upper : (p : Parts) (of other : Name) → is_below (world p) other of ≡ true → some_of_both p of other ≡ has_object p other
unfolding has_object
both_upper p of other is =
    any_turned (λ o. is_below (world p) o.of of) (λ o. is_below (world p) o.of other) p.objects
    ∙ any_both (λ o. is_below (world p) o.of other) (λ o. is_below (world p) o.of of) (λ o on. below_trans (world p) o.of other of on is) p.objects

pub both_apart : (p : Parts) (of other : Name) → is_below (world p) of other ≡ false → is_below (world p) other of ≡ false → some_of_both p of other ≡ false
both_apart p of other off out =
    any_none (λ o. is_below (world p) o.of of) (λ o. is_below (world p) o.of other)
    (λ o on at. neither (is_below (world p) of other) (is_below (world p) other of) off out (below_both (world p) o.of of other on at)) p.objects
  where
    neither : (a b : Bool) → a ≡ false → b ≡ false → (a || b) ≡ true → ⊥
    neither true b first second is = false≢true (sym first)
    neither false b first second is = false≢true (sym second ∙ is)

pub ruleset belows = (both_lower, both_upper, both_apart)
