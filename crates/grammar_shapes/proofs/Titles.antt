-- Titles of texts, and a bracket that stands alone.
use Rattle.std.proofs.Common.{◌≡◌, ℕ, true, List, [], ◌∷◌, refl, sym, subst}
use Rattle.std.specs.Prelude.{Bool, false, if◌then◌else◌}
use Rattle.std.proofs.lemmas.Slice.Eq.{bytes_eq-Decides}
use Rattle.up_text.specs.declared.place.Place.{Place}
use Rattle.pddl_lex.specs.declared.tree.TokenKind.TheVariants as kind
use Rattle.pddl_lex.specs.declared.tree.Sexp.{Sexp, Group}
use Rattle.pddl_lex.specs.Parses.{parsed, followed}
use Rattle.pddl_parse.specs.declared.raw.Ident.{Ident}
use Rattle.pddl_parse.specs.declared.shape.ShapeError.{ShapeError}
use Rattle.pddl_parse.specs.Shapes as shape
use Rattle.pddl_parse.specs.Shapes.{Read, misfit, extra}
use Rattle.pddl_parse.specs.Brackets.{is_word}
use Rattle.pddl_parse.specs.Texts.{unlike, in_title, title, only}
use Rattle.pddl_parse.specs.Forms.{leaf, IsIdent}
use Rattle.pddl_parse.proofs.Nodes.{bracket-Group, is_word-Leaf}
use Rattle.pddl_parse.proofs.Read.{ident_read}
use Rattle.pddl_parse.proofs.Spelled.{Sound, sound_behind, sound_followed, ident_sound}
use Rattle.pddl_parse.proofs.SpelledFormulas.{IsWord}
use Rattle.grammar_shapes.specs.Texts.{IsTitle, a_title}
use Rattle.grammar_shapes.proofs.Parses.{sound_map, sound_bracket, is_word_is}

pub like : (word : List ℕ) (at : Place) → unlike word (leaf (kind.Word word) at) ≡ []
like word at = rw (is_word-Leaf, (bytes_eq-Decides word word).1 refl) refl

not_unlike : (b : Bool) (fault : ShapeError) → (if b then [] else fault ∷ []) ≡ [] → b ≡ true
not_unlike true fault e = refl
not_unlike false fault e = cc

pub alike : (word : List ℕ) (tree : Sexp) → unlike word tree ≡ [] → IsWord tree word
alike word tree e = is_word_is word tree (not_unlike (is_word word tree) (misfit tree) e)

pub title_read : (word : List ℕ) (tree : Sexp) (name : Ident) → IsTitle word tree name → title word tree ≡ parsed name
title_read _ _ _ (a_title word place at tree name is) =
    rw (bracket-Group (in_title word) place (leaf (kind.Word word) at ∷ tree ∷ []), like word at, ident_read tree name is) refl

in_title_sound : (word : List ℕ) (place : Place) (items : List Sexp) → Sound (in_title word place items) (IsTitle word (Group place items))
in_title_sound word place [] = tt
in_title_sound word place (head ∷ []) = tt
in_title_sound word place (head ∷ tree ∷ []) =
    sound_behind (IsTitle word (Group place (head ∷ tree ∷ []))) (unlike word head) (followed (shape.ident tree) []) (λ e.
    sound_followed (IsTitle word (Group place (head ∷ tree ∷ []))) (shape.ident tree) [] (λ ended.
    sound_map (IsIdent tree) (IsTitle word (Group place (head ∷ tree ∷ []))) (shape.ident tree)
    (λ name is. subst (λ h. IsTitle word (Group place (h ∷ tree ∷ [])) name) (sym (alike word head e).is) (a_title word place
    (alike word head e).at tree name is))
    (ident_sound tree)))
in_title_sound word place (head ∷ tree ∷ another ∷ others) =
    sound_behind (IsTitle word (Group place (head ∷ tree ∷ another ∷ others))) (unlike word head) (followed (shape.ident tree) (extra
    (another ∷ others))) (λ e.
    sound_followed (IsTitle word (Group place (head ∷ tree ∷ another ∷ others))) (shape.ident tree) (extra (another ∷ others))
    (λ ended. let h : extra (another ∷ others) ≡ [] = ended in cc))

pub title_sound : (word : List ℕ) (tree : Sexp) → Sound (title word tree) (IsTitle word tree)
title_sound word tree = sound_bracket (IsTitle word) (in_title word) (in_title_sound word) tree

pub only_sound : {A : Type 0} (Q : List Sexp → A → Type 0) (f : Sexp → Read A) (trees : List Sexp) → ((tree : Sexp)
    → Sound (f tree) (Q (tree ∷ [])))
    → Sound (only f trees) (Q trees)
only_sound Q f [] h = tt
only_sound Q f (tree ∷ []) h = sound_followed (Q (tree ∷ [])) (f tree) [] (λ ended. h tree)
only_sound Q f (tree ∷ another ∷ others) h =
    sound_followed (Q (tree ∷ another ∷ others)) (f tree) (extra (another ∷ others)) (λ ended. let e : extra
    (another ∷ others) ≡ [] = ended in cc)
