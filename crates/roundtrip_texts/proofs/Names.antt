-- Names that differ, and lists of which each member is so.
use Rattle.std.proofs.Common.{◌≡◌, ℕ, zero, suc, Bool, true, false, cond, List, [], ◌∷◌, ◌++◌, map, take, Some, None, refl, ap, sym, subst, inl, inr}
use Rattle.std.specs.Prelude.{◌||◌}
use Rattle.std.specs.Map.{lookup}
use Rattle.std.specs.Cmp.Lexicographic.{bytes_decides}
use Rattle.up_text.specs.declared.name.Name.{Name}
use Rattle.up_text.specs.Fresh.{is_among}
use Rattle.up_text.specs.Names.{same_name}
use Rattle.up_text.specs.Lists.{Every, Member, Differ}

-- ---- what holds of each member

module _ {X : Type 0} (P : X → Type 0) where
  pub every : ((x : X) → P x) → (xs : List X) → Every P xs
  every all [] = tt
  every all (x ∷ xs) = (all x, every all xs)

  every_member : (xs : List X) → ((x : X) → Member x xs → P x) → Every P xs
  every_member [] all = tt
  every_member (x ∷ xs) all = (all x (inl refl), every_member xs (λ y m. all y (inr m)))

pub every_mapped : {X Y : Type 0} (f : X → Y) (P : Y → Type 0) (xs : List X) → Every (λ x. P (f x)) xs → Every P (map f xs)
every_mapped f P [] all = tt
every_mapped f P (x ∷ xs) all = (all.0, every_mapped f P xs all.1)

pub map_twice : {X Y Z : Type 0} (f : X → Y) (g : Y → Z) (xs : List X) → map g (map f xs) ≡ map (λ x. g (f x)) xs
map_twice f g [] = refl
map_twice f g (x ∷ xs) = ap (λ rest. g (f x) ∷ rest) (map_twice f g xs)

-- ---- names that differ

module _ {X : Type 0} where
  member_front : (x : X) (xs ys : List X) → Member x xs → Member x (xs ++ ys)
  member_front x [] ys here = absurd here
  member_front x (y ∷ xs) ys (inl same) = inl same
  member_front x (y ∷ xs) ys (inr more) = inr (member_front x xs ys more)

  member_back : (x : X) (xs ys : List X) → Member x ys → Member x (xs ++ ys)
  member_back x [] ys here = here
  member_back x (y ∷ xs) ys here = inr (member_back x xs ys here)

  pub differ_front : (xs ys : List X) → Differ (xs ++ ys) → Differ xs
  differ_front [] ys differ = tt
  differ_front (x ∷ xs) ys differ = (λ m. differ.0 (member_front x xs ys m), differ_front xs ys differ.1)

  pub differ_back : (xs ys : List X) → Differ (xs ++ ys) → Differ ys
  differ_back [] ys differ = differ
  differ_back (x ∷ xs) ys differ = differ_back xs ys differ.1

  -- what stands in front doesn't stand after
  apart : (xs ys : List X) → Differ (xs ++ ys) → (x : X) → Member x xs → ¬ Member x ys
  apart [] ys differ x here = absurd here
  apart (y ∷ xs) ys differ x (inl same) = λ there. differ.0 (member_back y xs ys (subst (λ z. Member z ys) same there))
  apart (y ∷ xs) ys differ x (inr more) = apart xs ys differ.1 x more

  pub differ_apart : (xs ys : List X) → Differ (xs ++ ys) → Every (λ y. ¬ Member y xs) ys
  differ_apart xs ys differ = every_member (λ y. ¬ Member y xs) ys (λ y there here. apart xs ys differ y here there)

module _ {X Y : Type 0} (f : X → Y) where
  member_taken : (n : ℕ) (xs : List X) (y : Y) → Member y (map f (take n xs)) → Member y (map f xs)
  member_taken zero xs y here = absurd here
  member_taken (suc n) [] y here = absurd here
  member_taken (suc n) (x ∷ xs) y (inl same) = inl same
  member_taken (suc n) (x ∷ xs) y (inr more) = inr (member_taken n xs y more)

  pub differ_taken : (n : ℕ) (xs : List X) → Differ (map f xs) → Differ (map f (take n xs))
  differ_taken zero xs differ = tt
  differ_taken (suc n) [] differ = tt
  differ_taken (suc n) (x ∷ xs) differ = (λ m. differ.0 (member_taken n xs (f x) m), differ_taken n xs differ.1)

-- ---- names that are new

module _ {X Y : Type 0} (key : X → Name) (value : X → Y) where
  pub none_found : (xs : List X) (name : Name) → ¬ Member name (map key xs) → lookup (same_name name) (map (λ x. (key x, value x)) xs) ≡ None
  none_found [] name out = refl
  none_found (x ∷ xs) name out = by (same_name name (key x)) refl (none_found xs name (λ m. out (inr m)))
    where
      by : (b : Bool) → same_name name (key x) ≡ b → lookup (same_name name) (map (λ x. (key x, value x)) xs) ≡ None
          → cond b (Some (value x)) (lookup (same_name name) (map (λ x. (key x, value x)) xs)) ≡ None
      by true same rest = absurd (out (inl ((bytes_decides name (key x)).0 same)))
      by false same rest = rest

pub still_new : (names : List Name) (name other : Name) → ¬ (name ≡ other) → is_among names other ≡ false → is_among (names ++ name ∷ []) other ≡ false
still_new [] name other apart new = by (same_name other name) refl
  where
    by : (b : Bool) → same_name other name ≡ b → (b || false) ≡ false
    by true same = absurd (apart (sym ((bytes_decides other name).0 same)))
    by false same = refl
still_new (x ∷ names) name other apart new = by (same_name other x) (still_new names name other apart) new
  where
    by : (b : Bool) → (is_among names other ≡ false → is_among (names ++ name ∷ []) other ≡ false) → (b || is_among names other) ≡ false
        → (b || is_among (names ++ name ∷ []) other) ≡ false
    by true rest new = new
    by false rest new = rest new
