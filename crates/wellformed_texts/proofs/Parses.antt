-- What holds of parts of bracket trees that are read holds of what is read of the trees.
use Rattle.std.proofs.Common.{Bool, true, false, if◌then◌else◌, List, [], ◌∷◌, ◌++◌, map, drop}
use Rattle.std.specs.Prelude.{⊤}
use Rattle.up_text.specs.declared.place.Place.{Place}
use Rattle.up_text.specs.Lists.{Every}
use Rattle.pddl_lex.specs.declared.tree.Sexp.{Sexp, Leaf, Group', items-the_row-Sexp}
use Rattle.pddl_lex.specs.Parses.{Parse, parsed, rejected, over, behind, followed}
use Rattle.pddl_parse.specs.Shapes.{Read, one, two}
use Rattle.pddl_parse.specs.Brackets.{bracket, is_empty, or_empty}
use Rattle.wellformed_texts.specs.Literals.{HasLiteralLeaves}
use Rattle.wellformed_phrases.specs.Agreement.{IfParsed}
use Rattle.wellformed_phrases.proofs.Parses.{parsed_any, parsed_two}
use Rattle.wellformed_texts.proofs.Leaves.{every_of_row}

-- ---- lists

pub every_rest : {X : Type 0} (P : X → Type 0) (xs : List X) → Every P xs → Every P (drop 1 xs)
every_rest P [] are = tt
every_rest P (x ∷ xs) are = are.1

pub every_behind : {X : Type 0} (P : X → Type 0) (xs : List X) (x : X) → Every P xs → P x → Every P (xs ++ x ∷ [])
every_behind P [] x are is = (is, tt)
every_behind P (y ∷ ys) x are is = (are.0, every_behind P ys x are.1 is)

-- ---- parses

pub parsed_made : {F A B : Type 0} (Q : B → Type 0) (g : A → B) (v : Parse F A) → ((a : A) → Q (g a)) → IfParsed (over g v) Q
parsed_made Q g (parsed a) h = h a
parsed_made Q g (rejected f fs) h = tt

pub parsed_behind : {F A : Type 0} (P : A → Type 0) (fs : List F) (v : Parse F A) → IfParsed v P → IfParsed (behind fs v) P
parsed_behind P [] v is = is
parsed_behind P (f ∷ fs) v is = tt

pub parsed_followed : {F A : Type 0} (P : A → Type 0) (v : Parse F A) (fs : List F) → IfParsed v P → IfParsed (followed v fs) P
parsed_followed P (parsed a) [] is = is
parsed_followed P (parsed a) (f ∷ fs) is = tt
parsed_followed P (rejected f gs) fs is = tt

pub parsed_if : {F A : Type 0} (P : A → Type 0) (b : Bool) (v w : Parse F A) → IfParsed v P → IfParsed w P → IfParsed (if b then v else w) P
parsed_if P true v w is so = is
parsed_if P false v w is so = so

-- each of these, if it is read, is so
abbrev pub EachIfParsed : {A : Type 0} → (A → Type 0) → List (Read A) → Type 0
EachIfParsed P vs = Every (λ v. IfParsed v P) vs

pub parsed_one : {A : Type 0} (P : A → Type 0) (place : Place) (vs : List (Read A)) → EachIfParsed P vs → IfParsed (one place vs) P
parsed_one P place [] are = tt
parsed_one P place (v ∷ vs) are = are.0

pub parsed_both : {A B C : Type 0} (P : A → Type 0) (Q : B → Type 0) (R : C → Type 0) (place : Place) (g : A → B → C) (vs : List (Read A)) (ws : List (Read B))
    → ((a : A) (b : B) → P a → Q b → R (g a b)) → EachIfParsed P vs → EachIfParsed Q ws → IfParsed (two place g vs ws) R
parsed_both P Q R place g [] ws h p q = tt
parsed_both P Q R place g (v ∷ vs) [] h p q = tt
parsed_both P Q R place g (v ∷ vs) (w ∷ []) h p q = tt
parsed_both P Q R place g (v ∷ vs) (w ∷ x ∷ others) h p q = parsed_two P Q R g v x h p.0 q.1.0

pub any_are : {A : Type 0} (vs : List (Read A)) → EachIfParsed (λ a. ⊤) vs
any_are [] = tt
any_are (v ∷ vs) = (parsed_any v, any_are vs)

pub each_is : {X A : Type 0} (P : A → Type 0) (f : X → Read A) (xs : List X) → ((x : X) → IfParsed (f x) P) → EachIfParsed P (map f xs)
each_is P f [] h = tt
each_is P f (x ∷ xs) h = (h x, each_is P f xs h)

pub each_as : {X A : Type 0} (O : X → Type 0) (P : A → Type 0) (f : X → Read A) (xs : List X) → ((x : X) → O x → IfParsed (f x) P) → Every O xs → EachIfParsed P (map f xs)
each_as O P f [] h are = tt
each_as O P f (x ∷ xs) h are = (h x are.0, each_as O P f xs h are.1)

-- ---- trees

pub parsed_bracket : {A : Type 0} (P : A → Type 0) (f : Place → List Sexp → Read A) → ((place : Place) (items : List Sexp) → IfParsed (f place items) P)
    → (tree : Sexp) → IfParsed (bracket f tree) P
unfolding bracket
parsed_bracket P f h (Leaf token) = tt
parsed_bracket P f h (Group' place n row) = h place (items-the_row-Sexp _ row)

pub parsed_group : {A : Type 0} (P : A → Type 0) (f : Place → List Sexp → Read A)
    → ((place : Place) (items : List Sexp) → Every HasLiteralLeaves items → IfParsed (f place items) P)
    → (tree : Sexp) → HasLiteralLeaves tree → IfParsed (bracket f tree) P
unfolding bracket HasLiteralLeaves
parsed_group P f h (Leaf token) has = tt
parsed_group P f h (Group' place n row) has = h place (items-the_row-Sexp _ row) (every_of_row row has)

pub parsed_or_empty : {A : Type 0} (P : A → Type 0) (nothing : A) (v : Read A) (tree : Sexp) → P nothing → IfParsed v P → IfParsed (or_empty nothing v tree) P
parsed_or_empty P nothing v tree is so = parsed_if P (is_empty tree) (parsed nothing) v is so
