-- Operands paired by halves.
use Rattle.std.proofs.Common.{◌≡◌, ℕ, zero, suc, ◌+◌, ◌-◌, ◌/◌, ◌≤◌, List, [], ◌∷◌, ◌++◌, length, take, drop, Option, Some, None, refl, ap, sym, ◌∙◌, arith}
use Rattle.std.proofs.lemmas.List.{length-take, length-drop, length-append, take-append-drop, append_assoc}
use Rattle.std.proofs.Math.Seq.{take-append_seam, drop-append_seam}
use Rattle.std.specs.Prelude.{Result, Ok, Err, IfOk, MatchOption}
use Rattle.up_text.specs.declared.memory.Memory.{Memory}
use Rattle.pddl_parse.specs.declared.raw.Operator.{Operator}
use Rattle.up_tree.specs.declared.expr.Expr.{Expr}
use Rattle.up_phrase.specs.Exprs.{both, halved, Taken, paired}

-- more turns than operands change nothing
halved_enough : (op : Operator) (s t : ℕ) (es : List Expr) → length es ≤ s → length es ≤ t → halved s op es ≡ halved t op es
halved_enough op zero zero es p q = refl
halved_enough op zero (suc t) [] p q = refl
halved_enough op zero (suc t) (a ∷ es) p q = absurd (omega arith)
halved_enough op (suc s) zero [] p q = refl
halved_enough op (suc s) zero (a ∷ es) p q = absurd (omega arith)
halved_enough op (suc s) (suc t) [] p q = refl
halved_enough op (suc s) (suc t) (a ∷ []) p q = refl
halved_enough op (suc s) (suc t) (a ∷ b ∷ es) p q =
    let n : ℕ = length (a ∷ b ∷ es) - length (a ∷ b ∷ es) / 2 in
    let front = length-take n (a ∷ b ∷ es) in
    let back = length-drop n (a ∷ b ∷ es) in
    let left : halved s op (take n (a ∷ b ∷ es)) ≡ halved t op (take n (a ∷ b ∷ es)) =
    halved_enough op s t (take n (a ∷ b ∷ es)) (omega (arith, front)) (omega (arith, front)) in
    let right : halved s op (drop n (a ∷ b ∷ es)) ≡ halved t op (drop n (a ∷ b ∷ es)) =
    halved_enough op s t (drop n (a ∷ b ∷ es)) (omega (arith, back)) (omega (arith, back)) in
    λ i. both op (left i) (right i)

halved_split : (op : Operator) (count : ℕ) (last : List Expr) → 2 ≤ count → length last ≡ count
    → both op (halved (count - count / 2) op (take (count - count / 2) last)) (halved (count / 2) op (drop (count - count / 2) last))
    ≡ halved count op last
halved_split op count [] some len = absurd (omega arith)
halved_split op count (a ∷ []) some len = absurd (omega arith)
halved_split op count (a ∷ b ∷ es) some len = rw (← len) (
    let n : ℕ = length (a ∷ b ∷ es) - length (a ∷ b ∷ es) / 2 in
    let front = length-take n (a ∷ b ∷ es) in
    let back = length-drop n (a ∷ b ∷ es) in
    let left : halved n op (take n (a ∷ b ∷ es)) ≡ halved (suc (length es)) op (take n (a ∷ b ∷ es)) =
    halved_enough op n (suc (length es)) (take n (a ∷ b ∷ es)) (omega (arith, front)) (omega (arith, front)) in
    let right : halved (length (a ∷ b ∷ es) / 2) op (drop n (a ∷ b ∷ es)) ≡ halved (suc (length es)) op (drop n (a ∷ b ∷ es)) =
    halved_enough op (length (a ∷ b ∷ es) / 2) (suc (length es)) (drop n (a ∷ b ∷ es)) (omega (arith, back)) (omega (arith, back)) in
    λ i. both op (left i) (right i))

-- the last half has been taken off, and then the others
pub taken_both : (op : Operator) (count : ℕ) (old middle new : List Expr) (left right : Option Expr) → 2 ≤ count
    → Taken op (count / 2) old middle right → Taken op (count - count / 2) middle new left → Taken op count old new (both op left right)
taken_both op count old middle new left right some one two =
    let at_middle : (front last : List Expr) → old ≡ front ++ last → length last ≡ count → middle ≡ front ++ take (count - count / 2) last =
    λ front last is len. one.leaves (front ++ take (count - count / 2) last) (drop (count - count / 2) last)
    (is ∙ ap (λ l. front ++ l) (sym (take-append-drop (count - count / 2) last)) ∙ sym (append_assoc front (take (count - count / 2) last) (drop (count - count / 2) last)))
    (let back = length-drop (count - count / 2) last in omega (arith, back, len)) in
    let of_right : (front last : List Expr) → old ≡ front ++ last → length last ≡ count → right ≡ halved (count / 2) op (drop (count - count / 2) last) =
    λ front last is len. one.pairs (front ++ take (count - count / 2) last) (drop (count - count / 2) last)
    (is ∙ ap (λ l. front ++ l) (sym (take-append-drop (count - count / 2) last)) ∙ sym (append_assoc front (take (count - count / 2) last) (drop (count - count / 2) last)))
    (let back = length-drop (count - count / 2) last in omega (arith, back, len)) in
    let size : (last : List Expr) → length last ≡ count → length (take (count - count / 2) last) ≡ count - count / 2 =
    λ last len. (let front = length-take (count - count / 2) last in omega (arith, front, len)) in
    record {
      pairs = λ front last is len.
          ap (λ l. both op l right) (two.pairs front (take (count - count / 2) last) (at_middle front last is len) (size last len))
          ∙ ap (λ r. both op (halved (count - count / 2) op (take (count - count / 2) last)) r) (of_right front last is len)
          ∙ halved_split op count last some len;
      leaves = λ front last is len. two.leaves front (take (count - count / 2) last) (at_middle front last is len) (size last len);
    }

-- lists with one more at the end
same_end : (new front last : List Expr) (x : Expr) → new ++ x ∷ [] ≡ front ++ last → length last ≡ 1 → (front ≡ new) × (last ≡ x ∷ [])
same_end new front last x e len =
    let one : length (new ++ x ∷ []) ≡ length new + 1 = length-append new (x ∷ []) in
    let two = length-append front last in
    let both_lengths : length (new ++ x ∷ []) ≡ length (front ++ last) = ap length e in
    let same : length front ≡ length new = omega (arith, one, two, both_lengths, len) in (
      sym (take-append_seam front last) ∙ ap (take (length front)) (sym e) ∙ ap (λ n. take n (new ++ x ∷ [])) same ∙ take-append_seam new (x ∷ []),
      sym (drop-append_seam front last) ∙ ap (drop (length front)) (sym e) ∙ ap (λ n. drop n (new ++ x ∷ [])) same ∙ drop-append_seam new (x ∷ []),
    )

-- one operand has been taken
pub taken_one : (op : Operator) (count : ℕ) (old new : List Expr) (made : Option Expr) → count ≡ 1
    → MatchOption made ((old ≡ []) × (new ≡ [])) (λ x. old ≡ new ++ x ∷ []) → Taken op count old new made
taken_one op count old new None one is = record {
  pairs = λ front last split len.
      (let some = length-append front last in let none : length (front ++ last) ≡ 0 = ap length (sym split ∙ is.0) in absurd (omega (arith, some, none, len, one)));
  leaves = λ front last split len.
      (let some = length-append front last in let none : length (front ++ last) ≡ 0 = ap length (sym split ∙ is.0) in absurd (omega (arith, some, none, len, one)));
}
taken_one op count old new (Some x) one is = record {
  pairs = λ front last split len. (let ends = same_end new front last x (sym is ∙ split) (len ∙ one) in sym (ap (λ n. halved n op last) one ∙ ap (halved 1 op) ends.1));
  leaves = λ front last split len. (let ends = same_end new front last x (sym is ∙ split) (len ∙ one) in sym ends.0);
}

-- what is answered is what has been taken
pub taken_as : (op : Operator) (count : ℕ) (old new : List Expr) (made : Option Expr) (result : Result (Option Expr) Memory) → Taken op count old new made
    → IfOk result (λ other. other ≡ made) → IfOk result (Taken op count old new)
taken_as op count old new made (Ok other) taken is = rw is taken
taken_as op count old new made (Err error) taken is = tt

-- and all operands are the last ones
pub paired_all : (op : Operator) (operands new : List Expr) (count : ℕ) (result : Result (Option Expr) Memory) → count ≡ length operands
    → IfOk result (Taken op count operands new) → IfOk result (λ made. made ≡ paired op operands)
paired_all op operands new count (Ok made) len taken = taken.pairs [] operands refl (sym len) ∙ ap (λ n. halved n op operands) len
paired_all op operands new count (Err error) len taken = tt
