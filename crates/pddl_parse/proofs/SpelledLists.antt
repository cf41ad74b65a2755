-- A tree that is read as a list of variables spells it.
use Rattle.std.proofs.Common.{◌≡◌, ℕ, List, [], ◌∷◌, ◌++◌, append_assoc, append-nil, refl, ap, sym, subst, ◌∙◌, true, false, Bool}
use Rattle.std.specs.Prelude.{⊤, ◌≢◌, if◌then◌else◌, Some, None}
use Rattle.up_text.specs.declared.place.Place.{Place}
use Rattle.up_text.specs.Names.{name_of}
use Rattle.pddl_lex.specs.declared.tree.TokenKind.{TokenKind}
use Rattle.pddl_lex.specs.declared.tree.TokenKind.TheVariants as kind
use Rattle.pddl_lex.specs.declared.tree.Sign.{Sign}
use Rattle.pddl_lex.specs.declared.tree.Sign.TheVariants as sign
use Rattle.pddl_lex.specs.declared.tree.Sexp.{Sexp, Leaf, Group, Group', items-the_row-Sexp}
use Rattle.pddl_lex.specs.Parses.{Parse, parsed, rejected, over_two, behind}
use Rattle.pddl_parse.specs.declared.raw.Ident.{Ident}
use Rattle.pddl_parse.specs.declared.raw.RawGroup.{RawGroup}
use Rattle.pddl_parse.specs.Shapes as shape
use Rattle.pddl_parse.specs.Shapes.{Read, kind_variable, misfit, lacking}
use Rattle.pddl_parse.specs.declared.typed.Item.TheVariants as item
use Rattle.pddl_parse.specs.Brackets.{short}
use Rattle.pddl_parse.specs.TypedLists as lists
use Rattle.pddl_parse.specs.TypedLists.{Go, is_minus, is_minus_kind, on_minus, on_name, last_group, variable_list, ends_in_minus, variables}
use Rattle.pddl_parse.specs.Forms.{leaf, IsIdent, IsVariable, variable, AreVariables, no_variables, more_variables, AreTyped, no_groups, untyped, typed}
use Rattle.pddl_parse.proofs.Rebuilt.{rebuilt}
use Rattle.pddl_parse.proofs.Spelled.{Sound, sound_two, sound_behind, named_sound, ident_sound}
use Rattle.pddl_parse.proofs.SpelledFormulas.{AreVars, vars}

pub kind_variable_sound : (at : Place) (k : TokenKind) → Sound (kind_variable at k) (IsVariable (leaf k at))
kind_variable_sound at (kind.Variable word) = named_sound (IsVariable (leaf (kind.Variable word) at)) at _ (name_of word) (λ name is. variable word name at is)
kind_variable_sound at (kind.Word word) = tt
kind_variable_sound at (kind.Sign s) = tt
kind_variable_sound at kind.Open = tt
kind_variable_sound at kind.Close = tt
kind_variable_sound at (kind.Keyword word) = tt
kind_variable_sound at (kind.Number number) = tt

pub variable_sound : (tree : Sexp) → Sound (shape.variable tree) (IsVariable tree)
unfolding shape.variable
variable_sound (Leaf token) = kind_variable_sound token.place token.kind
variable_sound (Group' place n row) = tt

pub record IsMinus (tree : Sexp) : Type 0 where
  pub at : Place
  pub is : tree ≡ leaf (kind.Sign sign.Minus) at

pub minus_sign : (at : Place) (s : Sign) → is_minus_kind (kind.Sign s) ≡ true → IsMinus (leaf (kind.Sign s) at)
minus_sign at sign.Minus e = record { at = at; is = refl }
minus_sign at _ e = cc

pub minus_kind : (at : Place) (k : TokenKind) → is_minus_kind k ≡ true → IsMinus (leaf k at)
minus_kind at (kind.Sign s) e = minus_sign at s e
minus_kind at _ e = cc

pub minus_is : (tree : Sexp) → is_minus tree ≡ true → IsMinus tree
unfolding is_minus
minus_is (Leaf token) e = minus_kind token.place token.kind e
minus_is (Group' place n row) e = cc

snoc : (front : List Sexp) (names : List Ident) → AreVariables front names → (tree : Sexp) (it : Ident) → IsVariable tree it
    → AreVariables (front ++ tree ∷ []) (names ++ it ∷ [])
snoc _ _ no_variables tree it is = more_variables tree it [] [] is no_variables
snoc _ _ (more_variables first name front names here others) tree it is =
    more_variables first name (front ++ tree ∷ []) (names ++ it ∷ []) here (snoc front names others tree it is)

none_front : (front : List Sexp) → AreVariables front [] → front ≡ []
none_front _ no_variables = refl

pub step_sound : (P : List RawGroup → Type 0) (b : Bool) (v w : Read (List RawGroup)) → (b ≡ true → Sound v P) → Sound w P → Sound (if b then v else w) P
step_sound P true v w h n = h refl
step_sound P false v w h n = n

pub last_sound : (place : Place) (front : List Sexp) (names : List Ident) → AreVariables front names → Sound (last_group place names false) (AreTyped (front ++ []))
last_sound place front [] are = subst (λ xs. AreTyped (xs ++ []) []) (sym (none_front front are)) no_groups
last_sound place front (name ∷ names) are = rw append-nil (untyped front (name ∷ names) (λ e. cc) are)

pub on_minus_sound : (P : List RawGroup → Type 0) (tree : Sexp) (names : List Ident) (go : Go) → (names ≢ [] → Sound (go names true) P) → Sound (on_minus tree names go) P
on_minus_sound P tree [] go h = sound_behind P (misfit tree ∷ []) (go [] true) (λ e. cc)
on_minus_sound P tree (name ∷ names) go h = h (λ e. cc)

on_name_sound : (P : List RawGroup → Type 0) (tree : Sexp) (v : Read Ident) (names : List Ident) (go : Go) → Sound v (IsVariable tree)
    → ((it : Ident) → IsVariable tree it → Sound (go (names ++ it ∷ []) false) P) → Sound (on_name v names go) P
on_name_sound P tree (parsed it) names go is h = h it is
on_name_sound P tree (rejected f fs) names go is h = sound_behind P (f ∷ fs) (go names false) (λ e. cc)

mutual
  names_on : (place : Place) (trees front : List Sexp) (names : List Ident) → AreVariables front names
      → Sound (lists.typed item.Variable place trees names false) (AreTyped (front ++ trees))
  names_on place [] front names are = last_sound place front names are
  names_on place (tree ∷ rest) front names are =
      step_sound (AreTyped (front ++ tree ∷ rest)) (is_minus tree) _ _
      (λ e. on_minus_sound (AreTyped (front ++ tree ∷ rest)) tree names (lists.typed item.Variable place rest) (λ some.
      subst (λ x. Sound (lists.typed item.Variable place rest names true) (AreTyped (front ++ x ∷ rest))) (sym (minus_is tree e).is)
      (type_on place rest front names (minus_is tree e).at are some)))
      (on_name_sound (AreTyped (front ++ tree ∷ rest)) tree (shape.variable tree) names (lists.typed item.Variable place rest) (variable_sound tree) (λ it is.
      subst (λ xs. Sound (lists.typed item.Variable place rest (names ++ it ∷ []) false) (AreTyped xs)) (append_assoc front (tree ∷ []) rest)
      (names_on place rest (front ++ tree ∷ []) (names ++ it ∷ []) (snoc front names are tree it is))))

  type_on : (place : Place) (trees front : List Sexp) (names : List Ident) (at : Place) → AreVariables front names → names ≢ []
      → Sound (lists.typed item.Variable place trees names true) (AreTyped (front ++ leaf (kind.Sign sign.Minus) at ∷ trees))
  type_on place [] front names at are some = tt
  type_on place (tree ∷ rest) front names at are some =
      sound_two (IsIdent tree) (AreTyped rest) (AreTyped (front ++ leaf (kind.Sign sign.Minus) at ∷ tree ∷ rest)) _ (shape.ident tree) (lists.typed item.Variable place rest [] false)
      (λ it groups is others. typed front names at tree it rest groups some are is others) (ident_sound tree) (names_on place rest [] [] no_variables)

pub list_sound : (place : Place) (trees : List Sexp) → Sound (variable_list place trees) (AreTyped trees)
list_sound place trees = sound_behind (AreTyped trees) (short (ends_in_minus trees) place trees) (lists.typed item.Variable place trees [] false) (λ e. names_on place trees [] [] no_variables)

pub sound_map : (P Q : List RawGroup → Type 0) (v : Read (List RawGroup)) → ((g : List RawGroup) → P g → Q g) → Sound v P → Sound v Q
sound_map P Q (parsed g) h p = h g p
sound_map P Q (rejected f fs) h p = tt

pub vars_sound : (tree : Sexp) → Sound (variables tree) (AreVars tree)
unfolding variables
vars_sound (Leaf token) = tt
vars_sound (Group' place n row) =
    sound_map (AreTyped (items-the_row-Sexp _ row)) (AreVars (Group' place n row)) (variable_list place (items-the_row-Sexp _ row))
    (λ groups are. vars place (items-the_row-Sexp _ row) (rebuilt place n row) are) (list_sound place (items-the_row-Sexp _ row))
