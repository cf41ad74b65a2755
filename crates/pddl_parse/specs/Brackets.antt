-- Brackets, and what stands for nothing.
use Rattle.std.specs.Prelude.{ℕ, Bool, true, false, if◌then◌else◌, List, [], ◌∷◌, ◌||◌, codes}
use Rattle.std.specs.Str.{bytes_eq}
use Rattle.up_text.specs.declared.place.Place.{Place}
use Rattle.pddl_lex.specs.declared.tree.TokenKind.{TokenKind}
use Rattle.pddl_lex.specs.declared.tree.TokenKind.TheVariants as kind
use Rattle.pddl_lex.specs.declared.tree.Sexp.{Sexp, Leaf, Group', items-the_row-Sexp}
use Rattle.pddl_lex.specs.Parses.{Parse, parsed, rejected}
use Rattle.pddl_parse.specs.declared.shape.ShapeError.{ShapeError}
use Rattle.pddl_parse.specs.Shapes.{Read, misfit_token, misfit_group}

-- a bracket whose trees are read by f
unfoldable pub bracket : {A : Type 0} → (Place → List Sexp → Read A) → Sexp → Read A
bracket f (Leaf token) = rejected (misfit_token token.place token) []
bracket f (Group' place n row) = f place (items-the_row-Sexp _ row)

-- a bracket at this place that lacks something
abbrev pub short : Bool → Place → List Sexp → List ShapeError
short true place items = misfit_group place items ∷ []
short false place items = []

abbrev pub is_none : List Sexp → Bool
is_none [] = true
is_none (tree ∷ rest) = false

-- the bracket `()`
unfoldable pub is_empty : Sexp → Bool
is_empty (Leaf token) = false
is_empty (Group' place n row) = is_none (items-the_row-Sexp _ row)

-- `()` is nothing, and another tree is what it is read as
abbrev pub or_empty : {A : Type 0} → A → Read A → Sexp → Read A
or_empty nothing v tree = if is_empty tree then parsed nothing else v

abbrev pub is_keyword_kind : List ℕ → TokenKind → Bool
is_keyword_kind word (kind.Keyword own) = bytes_eq own word
is_keyword_kind word _ = false

-- the keyword `:word`
unfoldable pub is_keyword : List ℕ → Sexp → Bool
is_keyword word (Leaf token) = is_keyword_kind word token.kind
is_keyword word (Group' place n row) = false

abbrev pub is_headed : List ℕ → List Sexp → Bool
is_headed word [] = false
is_headed word (head ∷ rest) = is_keyword word head

-- a bracket that begins with the keyword `:word`
unfoldable pub is_section : List ℕ → Sexp → Bool
is_section word (Leaf token) = false
is_section word (Group' place n row) = is_headed word (items-the_row-Sexp _ row)

-- one of the trees is such a section
abbrev pub has_section : List ℕ → List Sexp → Bool
has_section word [] = false
has_section word (tree ∷ rest) = is_section word tree || has_section word rest

abbrev pub is_word_kind : List ℕ → TokenKind → Bool
is_word_kind word (kind.Word own) = bytes_eq own word
is_word_kind word _ = false

-- the word itself
unfoldable pub is_word : List ℕ → Sexp → Bool
is_word word (Leaf token) = is_word_kind word token.kind
is_word word (Group' place n row) = false
