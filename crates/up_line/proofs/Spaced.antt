-- One more of a list whose members stand with a space before each.
use Rattle.std.proofs.Common.{◌≡◌, ℕ, ◌+◌, ◌<◌, ◌++◌, ◌∷◌, [], List, length, take, get_or, codes, arith, ap, sym, ◌∙◌, append_assoc}
use Rattle.std.proofs.lemmas.List.{take_more}
use Rattle.std.proofs.lemmas.Grind.{common_steps, flat_map-append}
use Rattle.up_line.specs.Sheet.{Sheet, after}
use Rattle.up_line.specs.Spaced.{spaced}
use Rattle.up_line.proofs.Sheets.{after-after}

spaced-append : {X : Type 0} (text : X → List ℕ) (xs : List X) (x : X) → spaced text (xs ++ x ∷ []) ≡ spaced text xs ++ codes " " ++ text x
spaced-append text xs x = grind (arith, common_steps, flat_map-append (λ y. codes " " ++ text y) xs (x ∷ []))

pub spaced-more-at : {X : Type 0} (text : X → List ℕ) (xs : List X) (i : ℕ) (d : X) (s : Sheet) → i < length xs → after (after (after s (spaced text (take i xs))) (codes " ")) (text (get_or xs i d)) ≡ after s (spaced text (take (i + 1) xs))
spaced-more-at text xs i d s h =
    let x = get_or xs i d in
    after-after _ (codes " ") (text x) ∙ after-after s (spaced text (take i xs)) (codes " " ++ text x) ∙ ap (after s) (sym (append_assoc (spaced text (take i xs)) (codes " ") (text x)) ∙ sym (spaced-append text (take i xs) x) ∙ ap (spaced text) (sym (take_more xs i d h)))

pub spaced-more : {X : Type 0} (text : X → List ℕ) (xs : List X) (i : ℕ) (x : X) (s : Sheet) → i < length xs → x ≡ get_or xs i x → after (after (after s (spaced text (take i xs))) (codes " ")) (text x) ≡ after s (spaced text (take (i + 1) xs))
spaced-more text xs i x s h e = ap (λ y. after (after (after s (spaced text (take i xs))) (codes " ")) (text y)) e ∙ spaced-more-at text xs i x s h
