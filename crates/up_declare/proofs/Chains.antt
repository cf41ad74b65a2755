-- A chain of parents that leaves the list leaves it among one more name than are listed.
use Rattle.std.proofs.Common.{◌≡◌, ℕ, zero, suc, ◌+◌, ◌<◌, ◌≤◌, Bool, true, false, cond, if◌then◌else◌, List, [], ◌∷◌, length, Option, Some, None, refl, ap, sym, ◌∙◌, true≢false, arith}
use Rattle.std.specs.Map.{lookup}
use Rattle.up_text.specs.declared.name.Name.{Name}
use Rattle.up_text.specs.Names.{same_name}
use Rattle.up_declare.specs.Types.{Types, parent_in, leaves, reaches}

pub leaves_none : (types : Types) (n : ℕ) (name : Name) → parent_in types name ≡ None → leaves types (suc n) name ≡ true
leaves_none types n name is = rw is refl

pub leaves_some : (types : Types) (n : ℕ) (name parent : Name) → parent_in types name ≡ Some parent → leaves types (suc n) name ≡ leaves types n parent
leaves_some types n name parent is = rw is refl

later_by : (types : Types) (n : ℕ) (name : Name) (o : Option Name) → parent_in types name ≡ o
    → ((parent : Name) → leaves types n parent ≡ true → leaves types (suc n) parent ≡ true)
    → leaves types (suc n) name ≡ true → leaves types (suc (suc n)) name ≡ true
later_by types n name None is on e = leaves_none types (suc n) name is
later_by types n name (Some parent) is on e =
    leaves_some types (suc n) name parent is ∙ on parent (sym (leaves_some types n name parent is) ∙ e)

pub leaves_later : (types : Types) (n : ℕ) (name : Name) → leaves types n name ≡ true → leaves types (suc n) name ≡ true
leaves_later types zero name e = absurd (true≢false (sym e))
leaves_later types (suc n) name e = later_by types n name (parent_in types name) refl (λ parent. leaves_later types n parent) e

abbrev one : Bool → ℕ
one true = 1
one false = 0

-- how many entries have a parent whose chain leaves the list among so many names
abbrev counted : Types → ℕ → Types → ℕ
counted types n [] = 0
counted types n (e ∷ es) = one (leaves types n e.1) + counted types n es

-- no parent's chain leaves the list among one name more only
abbrev Still : Types → ℕ → Types → Type 0
Still types n es = (test : Name → Bool) (p : Name) → lookup test es ≡ Some p → leaves types (suc n) p ≡ true → leaves types n p ≡ true

some_same : (a b : Name) → Some a ≡ Some b → a ≡ b
some_same a b e = cc

still_none : (types : Types) (n : ℕ) → Still types n []
still_none types n test p is e = cc

still_more : (types : Types) (n : ℕ) (e : Name × Name) (es : Types) → (leaves types (suc n) e.1 ≡ true → leaves types n e.1 ≡ true)
    → Still types n es → Still types n (e ∷ es)
still_more types n e es here others test p is leaving = by (test e.0) refl
  where
    by : (b : Bool) → test e.0 ≡ b → leaves types n p ≡ true
    by true t =
        let same : e.1 ≡ p = some_same e.1 p (sym (ap (λ c. cond c (Some e.1) (lookup test es)) t) ∙ is) in
        ap (leaves types n) (sym same) ∙ here (ap (leaves types (suc n)) same ∙ leaving)
    by false t = others test p (sym (ap (λ c. cond c (Some e.1) (lookup test es)) t) ∙ is) leaving

counted_less_by : (a b : Bool) (m n : ℕ) → (a ≡ true → b ≡ true) → m ≤ n → one a + m ≤ one b + n
counted_less_by true true m n on less = omega (less, arith)
counted_less_by true false m n on less = absurd (true≢false (sym (on refl)))
counted_less_by false true m n on less = omega (less, arith)
counted_less_by false false m n on less = omega (less, arith)

counted_later : (types : Types) (n : ℕ) (es : Types) → counted types n es ≤ counted types (suc n) es
counted_later types n [] = omega arith
counted_later types n (e ∷ es) =
    counted_less_by (leaves types n e.1) (leaves types (suc n) e.1) (counted types n es) (counted types (suc n) es) (leaves_later types n e.1) (counted_later types n es)

counted_all_by : (a : Bool) (m n : ℕ) → m ≤ n → one a + m ≤ suc n
counted_all_by true m n less = omega (less, arith)
counted_all_by false m n less = omega (less, arith)

counted_all : (types : Types) (n : ℕ) (es : Types) → counted types n es ≤ length es
counted_all types n [] = omega arith
counted_all types n (e ∷ es) = counted_all_by (leaves types n e.1) (counted types n es) (length es) (counted_all types n es)

data Step (types : Types) (n : ℕ) (es : Types) : Type 0 where
  still : Still types n es → Step types n es
  more : counted types n es < counted types (suc n) es → Step types n es

step_by : (types : Types) (n : ℕ) (e : Name × Name) (es : Types) (a b : Bool) → leaves types n e.1 ≡ a → leaves types (suc n) e.1 ≡ b
    → counted types n es ≤ counted types (suc n) es → Step types n es → Step types n (e ∷ es)
step_by types n e es true b x y less (still s) = still (still_more types n e es (λ _. x) s)
step_by types n e es true true x y less (more m) = more (rw (x, y) (omega (m, arith)))
step_by types n e es true false x y less (more m) = absurd (true≢false (sym (leaves_later types n e.1 x) ∙ y))
step_by types n e es false true x y less s = more (rw (x, y) (omega (less, arith)))
step_by types n e es false false x y less (still s) = still (still_more types n e es (λ t. absurd (true≢false (sym t ∙ y))) s)
step_by types n e es false false x y less (more m) = more (rw (x, y) (omega (m, arith)))

step : (types : Types) (n : ℕ) (es : Types) → Step types n es
step types n [] = still (still_none types n)
step types n (e ∷ es) = step_by types n e es (leaves types n e.1) (leaves types (suc n) e.1) refl refl (counted_later types n es) (step types n es)

still_next : (types : Types) (n : ℕ) → Still types n types → Still types (suc n) types
still_next types n s test p is leaving = by (parent_in types p) refl
  where
    by : (o : Option Name) → parent_in types p ≡ o → leaves types (suc n) p ≡ true
    by None none = leaves_none types n p none
    by (Some parent) there =
        leaves_some types n p parent there ∙ s (same_name p) parent there (sym (leaves_some types (suc n) p parent there) ∙ leaving)

data Reached (types : Types) (n : ℕ) : Type 0 where
  none_more : Still types n types → Reached types n
  so_many : n ≤ counted types n types → Reached types n

reached_next : (types : Types) (n : ℕ) → Reached types n → Step types n types → Reached types (suc n)
reached_next types n (none_more s) on = none_more (still_next types n s)
reached_next types n (so_many m) (still s) = none_more (still_next types n s)
reached_next types n (so_many m) (more g) = so_many (omega (m, g, arith))

reached : (types : Types) (n : ℕ) → Reached types n
reached types zero = so_many (omega arith)
reached types (suc n) = reached_next types n (reached types n) (step types n types)

full_by : (types : Types) (n : ℕ) (e : Name × Name) (es : Types) (a : Bool) → leaves types n e.1 ≡ a → counted types n es ≤ length es
    → suc (length es) ≤ one a + counted types n es → (length es ≤ counted types n es → Still types n es) → Still types n (e ∷ es)
full_by types n e es true x less many others = still_more types n e es (λ _. x) (others (omega (many, arith)))
full_by types n e es false x less many others = absurd (omega (less, many, arith))

full : (types : Types) (n : ℕ) (es : Types) → length es ≤ counted types n es → Still types n es
full types n [] many = still_none types n
full types n (e ∷ es) many = full_by types n e es (leaves types n e.1) refl (counted_all types n es) many (full types n es)

settled_by : (types : Types) → Reached types (length types) → Still types (length types) types
settled_by types (none_more s) = s
settled_by types (so_many m) = full types (length types) types m

settled : (types : Types) → Still types (length types) types
settled types = settled_by types (reached types (length types))

enough_by : (types : Types) (m : ℕ) (name : Name) (o : Option Name) → parent_in types name ≡ o
    → ((parent : Name) → leaves types m parent ≡ true → leaves types (suc (length types)) parent ≡ true)
    → leaves types (suc m) name ≡ true → leaves types (suc (length types)) name ≡ true
enough_by types m name None is on e = leaves_none types (length types) name is
enough_by types m name (Some parent) is on e =
    leaves_some types (length types) name parent is
    ∙ settled types (same_name name) parent is (on parent (sym (leaves_some types m name parent is) ∙ e))

-- a chain that leaves the list at all
pub enough : (types : Types) (m : ℕ) (name : Name) → leaves types m name ≡ true → leaves types (suc (length types)) name ≡ true
enough types zero name e = absurd (true≢false (sym e))
enough types (suc m) name e = enough_by types m name (parent_in types name) refl (λ parent. enough types m parent) e
