-- What is read of an operand or a choice, if anything, is so.
use Rattle.std.proofs.Common.{◌≡◌, Bool, true, false, List, [], ◌∷◌, refl}
use Rattle.std.specs.Prelude.{if◌then◌else◌}
use Rattle.up_text.specs.declared.place.Place.{Place}
use Rattle.pddl_lex.specs.declared.tree.Sexp.{Sexp}
use Rattle.pddl_lex.specs.Parses.{Parse, parsed, rejected, over, followed}
use Rattle.pddl_parse.specs.Shapes.{Read, extra}
use Rattle.pddl_parse.specs.Sections.{alone}
use Rattle.pddl_parse.proofs.Spelled.{Sound, sound_over, sound_followed}

pub sound_of : {F A : Type 0} (P : A → Type 0) (v : Parse F A) → ((a : A) → v ≡ parsed a → P a) → Sound v P
sound_of P (parsed a) h = h a refl
sound_of P (rejected f fs) h = tt

-- a choice by cases
pub chosen : {A : Type 0} (P : A → Type 0) (b : Bool) (here rest : A) → (b ≡ true → P here) → P rest → P (if b then here else rest)
chosen P true here rest h n = h refl
chosen P false here rest h n = n

-- what stands alone in a section
pub alone_sound : {A B : Type 0} (P : Sexp → A → Type 0) (Q : List Sexp → B → Type 0) (place : Place) (g : A → B) (f : Sexp → Read A)
    → ((tree : Sexp) (a : A) → P tree a → Q (tree ∷ []) (g a)) → ((tree : Sexp) → Sound (f tree) (P tree))
    → (trees : List Sexp) → Sound (over g (alone place f trees)) (Q trees)
alone_sound P Q place g f made each [] = tt
alone_sound P Q place g f made each (x ∷ []) =
    sound_over (P x) (Q (x ∷ [])) g (followed (f x) []) (λ a is. made x a is) (sound_followed (P x) (f x) [] (λ ended. each x))
alone_sound P Q place g f made each (x ∷ y ∷ others) =
    sound_over (λ a. ⊥) (Q (x ∷ y ∷ others)) g (followed (f x) (extra (y ∷ others))) (λ a never. absurd never)
    (sound_followed (λ a. ⊥) (f x) (extra (y ∷ others)) (λ ended. let e : extra (y ∷ others) ≡ [] = ended in cc))
