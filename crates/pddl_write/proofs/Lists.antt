-- One more of the variables of a declaration.
use Rattle.std.proofs.Common.{◌≡◌, ℕ, ◌+◌, ◌<◌, ◌++◌, ◌∷◌, [], List, length, take, get_or, codes, Bool, decimal, arith, ap, sym, ◌∙◌, append_assoc}
use Rattle.std.proofs.lemmas.List.{take_more}
use Rattle.std.proofs.lemmas.Grind.{common_steps}
use Rattle.std.proofs.lemmas.List.{append-nil}
use Rattle.up_text.specs.declared.name.Name.{Name}
use Rattle.pddl_write.specs.Phrases.{type_text}
use Rattle.pddl_write.specs.Files.{declared_text}

declared-append : (typed : Bool) (k : ℕ) (xs : List Name) (x : Name) → declared_text typed k (xs ++ x ∷ []) ≡ declared_text typed k xs ++ (codes " ?x" ++ decimal (k + length xs) ++ type_text typed x)
declared-append typed k [] x = append-nil _ ∙ ap (λ n. codes " ?x" ++ decimal n ++ type_text typed x) (omega arith)
declared-append typed k (y ∷ xs) x =
    let n : (k + 1) + length xs ≡ k + length (y ∷ xs) = omega arith in
    ap (λ rest. (codes " ?x" ++ decimal k ++ type_text typed y) ++ rest) (declared-append typed (k + 1) xs x ∙ ap (λ m. declared_text typed (k + 1) xs ++ (codes " ?x" ++ decimal m ++ type_text typed x)) n)
    ∙ sym (append_assoc (codes " ?x" ++ decimal k ++ type_text typed y) (declared_text typed (k + 1) xs) (codes " ?x" ++ decimal (k + length (y ∷ xs)) ++ type_text typed x))

pub declared-more : (typed : Bool) (xs : List Name) (i : ℕ) (x : Name) → i < length xs → x ≡ get_or xs i x → declared_text typed 1 (take (i + 1) xs) ≡ declared_text typed 1 (take i xs) ++ (codes " ?x" ++ decimal (i + 1) ++ type_text typed x)
declared-more typed xs i x h e =
    let t : take (i + 1) xs ≡ take i xs ++ x ∷ [] = take_more xs i x h ∙ ap (λ y. take i xs ++ y ∷ []) (sym e) in
    let n : 1 + length (take i xs) ≡ i + 1 = grind (arith, common_steps) in
    ap (declared_text typed 1) t ∙ declared-append typed 1 (take i xs) x ∙ ap (λ m. declared_text typed 1 (take i xs) ++ (codes " ?x" ++ decimal m ++ type_text typed x)) n
