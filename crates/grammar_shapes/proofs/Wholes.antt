-- A tree as a whole value, where `()` stands for nothing.
use Rattle.std.proofs.Common.{◌≡◌, List, [], ◌∷◌, refl, ap, ◌∙◌, true, false, Bool}
use Rattle.std.specs.Prelude.{if◌then◌else◌}
use Rattle.up_text.specs.declared.place.Place.{Place}
use Rattle.pddl_lex.specs.declared.tree.Sexp.{Sexp, Leaf, Group, Group', items-the_row-Sexp}
use Rattle.pddl_lex.specs.Parses.{parsed}
use Rattle.pddl_parse.specs.Shapes.{Read}
use Rattle.pddl_parse.specs.Brackets.{is_none, is_empty, or_empty}
use Rattle.pddl_parse.proofs.Nodes.{is_empty-Group}
use Rattle.pddl_parse.proofs.Rebuilt.{rebuilt}
use Rattle.pddl_parse.proofs.Spelled.{Sound}
use Rattle.grammar_shapes.proofs.Parses.{sound_if}

-- the bracket `()`
pub record IsEmpty (tree : Sexp) : Type 0 where
  pub place : Place
  pub is : tree ≡ Group place []

none_is : (items : List Sexp) → is_none items ≡ true → items ≡ []
none_is [] e = refl
none_is (tree ∷ items) e = cc

pub empty_is : (tree : Sexp) → is_empty tree ≡ true → IsEmpty tree
unfolding is_empty
empty_is (Leaf token) e = cc
empty_is (Group' place n row) e =
    record { place = place; is = rebuilt place n row ∙ ap (Group place) (none_is (items-the_row-Sexp _ row) e) }

pub nothing_read : {A : Type 0} (nothing : A) (v : Read A) (place : Place) → or_empty nothing v (Group place []) ≡ parsed nothing
nothing_read nothing v place = rw (is_empty-Group place []) refl

if_not : {A : Type 0} (b : Bool) (x y : A) → (b ≡ true → ⊥) → (if b then x else y) ≡ y
if_not true x y h = absurd (h refl)
if_not false x y h = refl

pub some_read : {A : Type 0} (nothing : A) (v : Read A) (tree : Sexp) (a : A)
    → v ≡ parsed a → (IsEmpty tree → ⊥) → or_empty nothing v tree ≡ parsed a
some_read nothing v tree a e some = if_not (is_empty tree) (parsed nothing) v (λ h. some (empty_is tree h)) ∙ e

pub whole_sound : {A : Type 0} (P : A → Type 0) (nothing : A) (v : Read A) (tree : Sexp)
    → (IsEmpty tree → P nothing) → Sound v P → Sound (or_empty nothing v tree) P
whole_sound P nothing v tree h is = sound_if P (is_empty tree) (parsed nothing) v (λ e. h (empty_is tree e)) (λ e. is)
