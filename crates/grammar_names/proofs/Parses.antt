-- Where a walk finds no fault.
use Rattle.std.proofs.Common.{◌≡◌, ℕ, Bool, true, false, List, [], ◌∷◌, ◌++◌, refl, arith}
use Rattle.std.specs.Prelude.{◌==◌}
use Rattle.std.proofs.lemmas.Bool.Decides.{nat_tests}
use Rattle.pddl_lex.specs.Parses.{parsed, rejected}
use Rattle.pddl_parse.proofs.Spelled.{Sound}
use Rattle.up_phrase.specs.declared.fault.Fault.{Fault}
use Rattle.up_phrase.specs.Walks.{Checked, after, unless}

pub sound_after : {A B : Type 0} (P : A → Type 0) (Q : B → Type 0) (v : Checked A) (next : A → Checked B)
    → Sound v P → ((a : A) → P a → Sound (next a) Q) → Sound (after v next) Q
sound_after P Q (parsed a) next is h = h a is
sound_after P Q (rejected f fs) next is h = tt

-- no fault is found of what holds
pub none_of : (b : Bool) (fault : Fault) → b ≡ true → unless b fault ≡ []
none_of b fault e = rw e refl

pub holds : (b : Bool) (fault : Fault) → unless b fault ≡ [] → b ≡ true
holds true fault e = refl
holds false fault e = cc

pub none_behind : {X : Type 0} (xs ys : List X) → xs ++ ys ≡ [] → ys ≡ []
none_behind [] ys e = e
none_behind (x ∷ xs) ys e = cc

pub none_before : {X : Type 0} (xs ys : List X) → xs ++ ys ≡ [] → xs ≡ []
none_before [] ys e = refl
none_before (x ∷ xs) ys e = cc

pub same_number : (m n : ℕ) → m ≡ n → (m == n) ≡ true
same_number m n e = grind (arith, nat_tests)

pub same_length : (m n : ℕ) → (m == n) ≡ true → m ≡ n
same_length m n e = grind (arith, nat_tests)
