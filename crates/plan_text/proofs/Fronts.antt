-- Bytes that pass a test, before what stops it.
use Rattle.std.proofs.Common.{◌≡◌, ℕ, suc, Bool, true, false, not, ◌&&◌, List, [], ◌∷◌, ◌++◌, length, drop, refl, ap, sym, ◌∙◌, append-nil, arith}
use Rattle.std.specs.Prelude.{take_while, take, if◌then◌else◌}
use Rattle.std.specs.List.{list_all}
use Rattle.std.proofs.lemmas.Bool.{and_parts, false≢true}
use Rattle.std.proofs.lemmas.List.Sums.{take_while-cons}
use Rattle.plan_text.specs.Bytes.{front_length, behind}

-- the bytes end, or the first of them fails the test
abbrev pub stops : (ℕ → Bool) → List ℕ → Bool
stops test [] = true
stops test (byte ∷ rest) = not (test byte)

not_true : (b : Bool) → not b ≡ true → b ≡ false
not_true true h = sym h
not_true false h = refl

pub take_front : (test : ℕ → Bool) (bytes rest : List ℕ) → list_all test bytes ≡ true → stops test rest ≡ true → take_while test (bytes ++ rest) ≡ bytes
take_front test [] [] passes stop = refl
take_front test [] (byte ∷ rest) passes stop = rw (take_while-cons test byte rest, not_true (test byte) stop) refl
take_front test (byte ∷ bytes) rest passes stop =
    let (here, others) = and_parts (test byte) (list_all test bytes) passes in
    rw (take_while-cons test byte (bytes ++ rest), here) (ap (λ (front : List ℕ). byte ∷ front) (take_front test bytes rest others stop))

drop_front : (bytes rest : List ℕ) → drop (length bytes) (bytes ++ rest) ≡ rest
drop_front [] rest = refl
drop_front (byte ∷ bytes) rest = drop_front bytes rest

pub behind_front : (test : ℕ → Bool) (bytes rest : List ℕ) → list_all test bytes ≡ true → stops test rest ≡ true → behind test (bytes ++ rest) ≡ rest
behind_front test bytes rest passes stop =
    ap (λ (front : List ℕ). drop (length front) (bytes ++ rest)) (take_front test bytes rest passes stop) ∙ drop_front bytes rest

pub behind_all : (test : ℕ → Bool) (bytes : List ℕ) → list_all test bytes ≡ true → behind test bytes ≡ []
behind_all test bytes passes = ap (behind test) (sym (append-nil bytes)) ∙ behind_front test bytes [] passes refl

-- bytes that pass one test stop another which none of them passes
pub stops_on : (test other : ℕ → Bool) (bytes rest : List ℕ) → ((byte : ℕ) → test byte ≡ true → other byte ≡ false)
    → list_all test bytes ≡ true → stops other rest ≡ true → stops other (bytes ++ rest) ≡ true
stops_on test other [] rest differ passes stop = stop
stops_on test other (byte ∷ bytes) rest differ passes stop =
    let (here, others) = and_parts (test byte) (list_all test bytes) passes in
    rw (differ byte here) refl

pub chosen : {A : Type 0} (b : Bool) (x y : A) → b ≡ true → (if b then x else y) ≡ x
chosen b x y is = rw is refl

pub other : {A : Type 0} (b : Bool) (x y : A) → b ≡ false → (if b then x else y) ≡ y
other b x y is = rw is refl

pub take_length : (bytes rest : List ℕ) → take (length bytes) (bytes ++ rest) ≡ bytes
take_length [] rest = refl
take_length (byte ∷ bytes) rest = ap (λ (front : List ℕ). byte ∷ front) (take_length bytes rest)
