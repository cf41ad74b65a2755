-- Facts of results whose error is known, and of errors that are handed on.
use Rattle.std.proofs.Common.{◌≡◌, sym, subst}
use Rattle.std.specs.Prelude.{Result, Ok, Err, IfErr, OnOk, IsErrAnd}

module _ {X E : Type 0} (r : Result X E) (e : E) (is : IsErrAnd r (λ y. y ≡ e)) where
  pub stopped : (P : E → Type 0) → P e → IfErr r P
  stopped P h = by r is
    where
      by : (r : Result X E) → IsErrAnd r (λ y. y ≡ e) → IfErr r P
      by (Ok x) k = absurd k
      by (Err y) k = subst P (sym k) h

-- what is said of each answer
pub answered : {X E : Type 0} (r : Result X E) (P Q : Type 0) → OnOk r P → (P → Q) → OnOk r Q
answered (Ok x) P Q h f = f h
answered (Err e) P Q h f = tt
