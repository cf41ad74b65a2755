-- A text has a piece left exactly where a step puts one.
use Rattle.std.proofs.Common.{◌≡◌, ◌≢◌, ℕ, Bool, true, false, IsTrue, List, [], ◌∷◌, ◌++◌, refl, ap, sym, ◌∙◌}
use Rattle.std.specs.List.{concat}

not_blank : (piece rest : List ℕ) → piece ≢ [] → piece ++ rest ≡ [] → ⊥
not_blank [] rest h e = h refl
not_blank (x ∷ piece) rest h e = cc

pub more_left : (b : Bool) (pieces : List (List ℕ)) (piece : List ℕ) (rest : List (List ℕ)) → (IsTrue b → pieces ≡ piece ∷ rest) → (IsTrue b → piece ≢ []) → (¬ IsTrue b → pieces ≡ []) → (IsTrue b → concat pieces ≡ [] → ⊥) × (concat pieces ≢ [] → IsTrue b)
more_left true pieces piece rest more some end = (λ t e. not_blank piece (concat rest) (some t) (sym (ap concat (more t)) ∙ e), λ h. refl)
more_left false pieces piece rest more some end = (λ t e. let f : true ≡ false = sym t in cc, λ h. absurd (h (ap concat (end (λ t. let f : true ≡ false = sym t in cc)))))
