-- Places in a list to which one element is pushed.
use Rattle.std.proofs.Common.{◌≡◌, ◌⊎◌, inl, inr, ℕ, zero, suc, ◌+◌, ◌<◌, ◌≤◌, Bool, true, false, ◌||◌, List, [], ◌∷◌, ◌++◌, length, drop, get_or, Option, None, Some, refl, ap, sym, ◌∙◌, subst, arith}
use Rattle.std.specs.Prelude.{slice_get, unwrap_or, ◌==◌}
use Rattle.std.specs.List.{list_any}
use Rattle.std.proofs.lemmas.Bool.{false≢true, eqb-true, eq-eqb}
use Rattle.up_text.specs.Lists.{Every, Member}

pub none_apart : {X : Type 0} {x : X} → None ≡ Some x → ⊥
none_apart e = cc

pub some_same : {X : Type 0} (x y : X) → Some x ≡ Some y → x ≡ y
some_same x y e = ap (λ o. unwrap_or o x) e

pub stands_below : {X : Type 0} (xs : List X) (i : ℕ) (n : X) → slice_get xs i ≡ Some n → i < length xs
stands_below [] i n is = absurd (none_apart is)
stands_below (x ∷ xs) zero n is = omega arith
stands_below (x ∷ xs) (suc i) n is = omega (arith, stands_below xs i n is)

pub stands_at : {X : Type 0} (xs : List X) (i : ℕ) → i < length xs → (n : X) × (slice_get xs i ≡ Some n)
stands_at [] i below = absurd (omega arith)
stands_at (x ∷ xs) zero below = (x, refl)
stands_at (x ∷ xs) (suc i) below = stands_at xs i (omega arith)

pub stands_old : {X : Type 0} (xs : List X) (x : X) (i : ℕ) (n : X) → slice_get xs i ≡ Some n → slice_get (xs ++ x ∷ []) i ≡ Some n
stands_old [] x i n is = absurd (none_apart is)
stands_old (y ∷ xs) x zero n is = is
stands_old (y ∷ xs) x (suc i) n is = stands_old xs x i n is

pub stands_new : {X : Type 0} (xs : List X) (x : X) → slice_get (xs ++ x ∷ []) (length xs) ≡ Some x
stands_new [] x = refl
stands_new (y ∷ xs) x = stands_new xs x

pub stands_push : {X : Type 0} (xs : List X) (x : X) (i : ℕ) (n : X) → slice_get (xs ++ x ∷ []) i ≡ Some n
    → (slice_get xs i ≡ Some n) ⊎ ((i ≡ length xs) × (n ≡ x))
stands_push [] x zero n is = inr (refl, sym (some_same x n is))
stands_push [] x (suc i) n is = absurd (none_apart is)
stands_push (y ∷ xs) x zero n is = inl is
stands_push (y ∷ xs) x (suc i) n is = elim (stands_push xs x i n is) [
  | inl old ↦ inl old
  | inr new ↦ inr (ap suc new.0, new.1)
]

-- where no element passes a test, none at a place does
pub none_at : {X : Type 0} (t : X → Bool) (xs : List X) (i : ℕ) (n : X) → list_any t xs ≡ false → slice_get xs i ≡ Some n → t n ≡ false
none_at t [] i n none is = absurd (none_apart is)
none_at t (x ∷ xs) i n none is = by (t x) refl none i is (none_at t xs)
  where
    by : (b : Bool) → t x ≡ b → (b || list_any t xs) ≡ false → (i : ℕ) → slice_get (x ∷ xs) i ≡ Some n
        → ((i : ℕ) (n : _) → list_any t xs ≡ false → slice_get xs i ≡ Some n → t n ≡ false) → t n ≡ false
    by true test none i is behind = absurd (false≢true (sym none))
    by false test none zero is behind = subst (λ m. t m ≡ false) (some_same x n is) test
    by false test none (suc i) is behind = behind i n none is

-- and where some does, one at a place does
pub some_at : {X : Type 0} (t : X → Bool) (xs : List X) → list_any t xs ≡ true → (i : ℕ) × ((n : X) × ((slice_get xs i ≡ Some n) × (t n ≡ true)))
some_at t [] some = absurd (false≢true some)
some_at t (x ∷ xs) some = by (t x) refl some (some_at t xs)
  where
    by : (b : Bool) → t x ≡ b → (b || list_any t xs) ≡ true
        → (list_any t xs ≡ true → (i : ℕ) × ((n : _) × ((slice_get xs i ≡ Some n) × (t n ≡ true))))
        → (i : ℕ) × ((n : _) × ((slice_get (x ∷ xs) i ≡ Some n) × (t n ≡ true)))
    by true test some behind = (0, (x, (refl, test)))
    by false test some behind = let found = behind some in (suc found.0, (found.1.0, (found.1.1.0, found.1.1.1)))

pub every_member : {X : Type 0} (P : X → Type 0) (xs : List X) (x : X) → Every P xs → Member x xs → P x
every_member P [] x all there = absurd there
every_member P (y ∷ xs) x all (inl here) = subst P (sym here) all.0
every_member P (y ∷ xs) x all (inr more) = every_member P xs x all.1 more

pub every_push : {X : Type 0} (P : X → Type 0) (xs : List X) (x : X) → Every P xs → P x → Every P (xs ++ x ∷ [])
every_push P [] x all here = (here, tt)
every_push P (y ∷ xs) x all here = (all.0, every_push P xs x all.1 here)

pub every_of : {X : Type 0} (P : X → Type 0) (xs : List X) → ((x : X) → Member x xs → P x) → Every P xs
every_of P [] each = tt
every_of P (x ∷ xs) each = (each x (inl refl), every_of P xs (λ y there. each y (inr there)))

pub stands_get : {X : Type 0} (xs : List X) (i : ℕ) (n d : X) → i < length xs → n ≡ get_or xs i d → slice_get xs i ≡ Some n
stands_get [] i n d below is = absurd (omega arith)
stands_get (x ∷ xs) zero n d below is = ap Some (sym is)
stands_get (x ∷ xs) (suc i) n d below is = stands_get xs i n d (omega arith) is

pub drop_here : {X : Type 0} (xs : List X) (i : ℕ) (d : X) → i < length xs → drop i xs ≡ get_or xs i d ∷ drop (i + 1) xs
drop_here [] i d below = absurd (omega arith)
drop_here (x ∷ xs) zero d below = refl
drop_here (x ∷ xs) (suc i) d below =
    let later : suc i + 1 ≡ suc (i + 1) = omega arith in
    drop_here xs i d (omega arith) ∙ ap (λ k. get_or xs i d ∷ drop k (x ∷ xs)) (sym later)

pub drop_end : {X : Type 0} (xs : List X) (i : ℕ) → length xs ≤ i → drop i xs ≡ []
drop_end [] zero ends = refl
drop_end [] (suc i) ends = refl
drop_end (x ∷ xs) zero ends = absurd (omega arith)
drop_end (x ∷ xs) (suc i) ends = drop_end xs i (omega arith)
