-- Trees that don't fit, names, and operands that are missing or too many.
use Rattle.std.specs.Prelude.{ℕ, Bool, true, false, ◌||◌, if◌then◌else◌, List, [], ◌∷◌, codes, Option, Some, None}
use Rattle.std.specs.Str.{bytes_eq}
use Rattle.up_text.specs.declared.place.Place.{Place}
use Rattle.up_text.specs.Names.{name_of}
use Rattle.pddl_lex.specs.declared.tree.Token.{Token}
use Rattle.pddl_lex.specs.declared.tree.TokenKind.{TokenKind}
use Rattle.pddl_lex.specs.declared.tree.TokenKind.TheVariants as kind
use Rattle.pddl_lex.specs.declared.tree.Sexp.{Sexp, Leaf, Group', items-the_row-Sexp}
use Rattle.pddl_lex.specs.Parses.{Parse, parsed, rejected, faults, over_two}
use Rattle.pddl_parse.specs.declared.raw.Ident.{Ident}
use Rattle.pddl_parse.specs.declared.shape.ShapeError.{ShapeError}
use Rattle.pddl_parse.specs.declared.shape.ShapeError.TheVariants.{Expected, LeftOut}

-- what a tree is read as, or its faults
abbrev pub Read : Type 0 → Type 0
Read A = Parse ShapeError A

abbrev pub is_left_out : List ℕ → Bool
is_left_out word = bytes_eq word (codes "either") || bytes_eq word (codes "preference") || bytes_eq word (codes "undefined") || bytes_eq word (codes "total-time")

abbrev pub word_fault : List ℕ → Place → ShapeError
word_fault word place = if is_left_out word then LeftOut place else Expected place

abbrev pub kind_fault : Place → Place → TokenKind → ShapeError
kind_fault place at (kind.Word word) = if is_left_out word then LeftOut at else Expected place
kind_fault place at _ = Expected place

-- the fault of a tree at this place that doesn't fit and begins with this token
abbrev pub misfit_token : Place → Token → ShapeError
misfit_token place token = kind_fault place token.place token.kind

abbrev pub misfit_head : Place → Sexp → ShapeError
misfit_head place (Leaf token) = misfit_token place token
misfit_head place (Group' at n row) = Expected place

abbrev pub misfit_group : Place → List Sexp → ShapeError
misfit_group place [] = Expected place
misfit_group place (head ∷ rest) = misfit_head place head

-- the fault of a tree that doesn't fit where it stands
unfoldable pub misfit : Sexp → ShapeError
misfit (Leaf token) = misfit_token token.place token
misfit (Group' place n row) = misfit_group place (items-the_row-Sexp _ row)

-- the fault of a tree that stands where the bracket should end
abbrev pub extra : List Sexp → List ShapeError
extra [] = []
extra (tree ∷ rest) = misfit tree ∷ []

-- the fault of a bracket that lacks something
abbrev pub lacking : Bool → Place → List ShapeError
lacking true place = Expected place ∷ []
lacking false place = []

-- the first of the operands of a bracket at this place
abbrev pub one : {A : Type 0} → Place → List (Read A) → Read A
one place [] = rejected (Expected place) []
one place (a ∷ rest) = a

-- the first two operands of a bracket at this place, each by its own kind
abbrev pub two : {A B C : Type 0} → Place → (A → B → C) → List (Read A) → List (Read B) → Read C
two place g [] bs = rejected (Expected place) []
two place g (a ∷ rest) [] = rejected (Expected place) (faults a)
two place g (a ∷ rest) (b ∷ []) = rejected (Expected place) (faults a)
two place g (a ∷ rest) (b ∷ c ∷ others) = over_two g a c

abbrev pub named : Place → ShapeError → Option (List ℕ) → Read Ident
named place fault (Some name) = parsed (record { name = name; place = place })
named place fault None = rejected fault []

abbrev pub kind_ident : Place → TokenKind → Read Ident
kind_ident place (kind.Word word) = named place (word_fault word place) (name_of word)
kind_ident place _ = rejected (Expected place) []

abbrev pub kind_variable : Place → TokenKind → Read Ident
kind_variable place (kind.Variable name) = named place (Expected place) (name_of name)
kind_variable place (kind.Word word) = rejected (word_fault word place) []
kind_variable place _ = rejected (Expected place) []

-- a name
unfoldable pub ident : Sexp → Read Ident
ident (Leaf token) = kind_ident token.place token.kind
ident (Group' place n row) = rejected (misfit (Group' place n row)) []

-- a variable
unfoldable pub variable : Sexp → Read Ident
variable (Leaf token) = kind_variable token.place token.kind
variable (Group' place n row) = rejected (misfit (Group' place n row)) []
