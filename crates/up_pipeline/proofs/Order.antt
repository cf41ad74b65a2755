-- Chains by their values: shorter first, then in table order.
use Rattle.std.proofs.Common.{◌≡◌, ◌⊎◌, inl, inr, ℕ, zero, suc, ◌+◌, ◌*◌, ◌<◌, ◌≤◌, Bool, true, false, List, [], ◌∷◌, ◌++◌, length, Option, Some, refl, ap, sym, ◌∙◌, subst, arith}
use Rattle.std.specs.Prelude.{nat_lt, slice_get}
use Rattle.std.proofs.lemmas.Bool.Decides.{nat_tests}
use Rattle.up_compiler.specs.declared.id.CompilerId.{CompilerId}
use Rattle.up_compiler.specs.declared.id.CompilerId.TheVariants.{Objects, Quantifiers, Conditionals, Disjunctions, Overlaps, Negations, Grounder, Types, Trajectory}
use Rattle.up_pipeline.specs.Chains.{place_of, IsNoLater}
use Rattle.up_pipeline.specs.Search.{value_from, value}

pub lt_or_le : (m n : ℕ) → (m < n) ⊎ (n ≤ m)
lt_or_le m n =
    let by_test : (b : Bool) → nat_lt m n ≡ b → (m < n) ⊎ (n ≤ m) =
    elim [ true ↦ λ is. inl (grind (arith, nat_tests)) | false ↦ λ is. inr (grind (arith, nat_tests)) ] in
    by_test (nat_lt m n) refl

pub lt_or_eq : (k n : ℕ) → k ≤ n → (k < n) ⊎ (k ≡ n)
lt_or_eq k n below = elim (lt_or_le k n) [ inl less ↦ inl less | inr more ↦ inr (omega arith) ]

pub place_small : (id : CompilerId) → place_of id < 9
place_small Objects = omega arith
place_small Quantifiers = omega arith
place_small Conditionals = omega arith
place_small Disjunctions = omega arith
place_small Overlaps = omega arith
place_small Negations = omega arith
place_small Grounder = omega arith
place_small Types = omega arith
place_small Trajectory = omega arith

id_at : ℕ → Option CompilerId
id_at n = slice_get (Objects ∷ Quantifiers ∷ Conditionals ∷ Disjunctions ∷ Overlaps ∷ Negations ∷ Grounder ∷ Types ∷ Trajectory ∷ []) n

id_there : (id : CompilerId) → id_at (place_of id) ≡ Some id
unfolding id_at
id_there Objects = refl
id_there Quantifiers = refl
id_there Conditionals = refl
id_there Disjunctions = refl
id_there Overlaps = refl
id_there Negations = refl
id_there Grounder = refl
id_there Types = refl
id_there Trajectory = refl

same_place : (a b : CompilerId) → place_of a ≡ place_of b → a ≡ b
same_place a b same = let there : Some a ≡ Some b = sym (id_there a) ∙ ap id_at same ∙ id_there b in cc

-- ---- values

pub value_append : (n : ℕ) (c d : List CompilerId) → value_from n (c ++ d) ≡ value_from (value_from n c) d
value_append n [] d = refl
value_append n (x ∷ c) d = value_append (10 * n + place_of x + 1) c d

pub value_more : (n : ℕ) (c : List CompilerId) → n ≤ value_from n c
value_more n [] = omega arith
value_more n (x ∷ c) = omega (arith, value_more (10 * n + place_of x + 1) c)

pub value_grows : (m n : ℕ) (c : List CompilerId) → m ≤ n → value_from m c ≤ value_from n c
value_grows m n [] less = less
value_grows m n (x ∷ c) less = value_grows (10 * m + place_of x + 1) (10 * n + place_of x + 1) c (omega arith)

value_less : (c d : List CompilerId) (m n : ℕ) → length c ≡ length d → m < n → value_from m c < value_from n d
value_less [] [] m n same less = less
value_less [] (y ∷ d) m n same less = absurd (omega arith)
value_less (x ∷ c) [] m n same less = absurd (omega arith)
value_less (x ∷ c) (y ∷ d) m n same less =
    value_less c d (10 * m + place_of x + 1) (10 * n + place_of y + 1) (omega arith) (omega (arith, place_small x, place_small y))

value_above : (c d : List CompilerId) (n : ℕ) → 0 < n → length d ≤ length c → value_from 0 d < value_from n c
value_above [] d n above longer = value_less d [] 0 n (omega arith) above
value_above (x ∷ c) d n above longer = elim (lt_or_eq (length d) (length (x ∷ c)) longer) [
  | inl less ↦ value_above c d (10 * n + place_of x + 1) (omega arith) (omega arith)
  | inr same ↦ value_less d (x ∷ c) 0 n same above
]

value_longer : (c d : List CompilerId) → length d < length c → value d < value c
value_longer [] d longer = absurd (omega arith)
value_longer (x ∷ c) d longer = value_above c d (10 * 0 + place_of x + 1) (omega arith) (omega arith)

no_later : (c d : List CompilerId) (n : ℕ) → length c ≡ length d → value_from n c ≤ value_from n d → IsNoLater c d
no_later [] d n same less = tt
no_later (x ∷ c) [] n same less = absurd (omega arith)
no_later (x ∷ c) (y ∷ d) n same less = elim (lt_or_le (place_of x) (place_of y)) [
  | inl before ↦ inl before
  | inr behind ↦ elim (lt_or_eq (place_of y) (place_of x) behind) [
    | inl after ↦ absurd (omega (arith, value_less d c (10 * n + place_of y + 1) (10 * n + place_of x + 1) (omega arith) (omega arith), less))
    | inr here ↦ (let is : x ≡ y = same_place x y (sym here) in
        let at : value_from (10 * n + place_of x + 1) d ≡ value_from (10 * n + place_of y + 1) d = ap (λ k. value_from (10 * n + k + 1) d) (sym here) in
        inr (is, no_later c d (10 * n + place_of x + 1) (omega arith) (omega (arith, at, less))))
  ]
]

-- a chain of no greater value is shorter, or as long and no later
pub value_order : (c d : List CompilerId) → value c ≤ value d → (length c < length d) ⊎ ((length c ≡ length d) × IsNoLater c d)
value_order c d less = elim (lt_or_le (length d) (length c)) [
  | inl longer ↦ absurd (omega (arith, value_longer c d longer, less))
  | inr most ↦ elim (lt_or_eq (length c) (length d) most) [
    | inl shorter ↦ inl shorter
    | inr same ↦ inr (same, no_later c d 0 same less)
  ]
]
