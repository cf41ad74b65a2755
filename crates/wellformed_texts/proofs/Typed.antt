-- Names that are read may be declared, and so may those of typed lists.
use Rattle.std.proofs.Common.{◌≡◌, ℕ, Bool, true, false, not, if◌then◌else◌, ◌&&◌, List, [], ◌∷◌, ◌++◌, refl}
use Rattle.std.specs.Prelude.{Some, None}
use Rattle.up_text.specs.declared.place.Place.{Place}
use Rattle.up_text.specs.Names.{IsName, is_spelled, is_reserved, name_of}
use Rattle.up_text.specs.Lists.{Every}
use Rattle.pddl_lex.specs.declared.tree.TokenKind.{TokenKind}
use Rattle.pddl_lex.specs.declared.tree.TokenKind.TheVariants as kind
use Rattle.pddl_lex.specs.declared.tree.Sexp.{Sexp, Leaf, Group', items-the_row-Sexp}
use Rattle.pddl_parse.specs.declared.raw.Ident.{Ident}
use Rattle.pddl_parse.specs.declared.raw.RawGroup.{RawGroup}
use Rattle.pddl_parse.specs.declared.shape.ShapeError.{ShapeError}
use Rattle.pddl_parse.specs.declared.typed.Item.{Item}
use Rattle.pddl_parse.specs.declared.typed.Item.TheVariants as item
use Rattle.pddl_parse.specs.Brackets.{short}
use Rattle.pddl_parse.specs.Shapes.{Read, lacking, named, kind_ident, kind_variable, ident, variable}
use Rattle.pddl_parse.specs.TypedLists.{is_minus, ends_in_minus, listed, Go, last_group, on_minus, on_name, typed_step, typed, typed_list, variable_list, variables}
use Rattle.pddl_lex.specs.Parses.{parsed, rejected}
use Rattle.wellformed_phrases.specs.Agreement.{IfParsed}
use Rattle.wellformed_phrases.specs.LawfulPhrases.{HaveNames}
use Rattle.wellformed_phrases.specs.SoundTypes.{HaveNamedTypes}
use Rattle.wellformed_phrases.proofs.Parses.{parsed_two}
use Rattle.wellformed_texts.proofs.Parses.{parsed_behind, parsed_if, every_behind}

-- ---- names

abbrev pub IsNamed : Ident → Type 0
IsNamed it = IsName it.name

named_is : (place : Place) (fault : ShapeError) (word : List ℕ) → IfParsed (named place fault (name_of word)) IsNamed
named_is place fault word = by (is_spelled word) (not (is_reserved word)) refl refl
  where
    by : (spelled free : Bool) → is_spelled word ≡ spelled → not (is_reserved word) ≡ free
        → IfParsed (named place fault (if spelled && free then Some word else None)) IsNamed
    by true true is so = record { spelled = is; free = so }
    by true false is so = tt
    by false free is so = tt

pub kind_ident_is : (place : Place) (k : TokenKind) → IfParsed (kind_ident place k) IsNamed
kind_ident_is place (kind.Word word) = named_is place _ word
kind_ident_is place kind.Open = tt
kind_ident_is place kind.Close = tt
kind_ident_is place (kind.Variable word) = tt
kind_ident_is place (kind.Keyword word) = tt
kind_ident_is place (kind.Number number) = tt
kind_ident_is place (kind.Sign sign) = tt

kind_variable_is : (place : Place) (k : TokenKind) → IfParsed (kind_variable place k) IsNamed
kind_variable_is place (kind.Variable word) = named_is place _ word
kind_variable_is place (kind.Word word) = tt
kind_variable_is place kind.Open = tt
kind_variable_is place kind.Close = tt
kind_variable_is place (kind.Keyword word) = tt
kind_variable_is place (kind.Number number) = tt
kind_variable_is place (kind.Sign sign) = tt

pub ident_is : (tree : Sexp) → IfParsed (ident tree) IsNamed
unfolding ident
ident_is (Leaf token) = kind_ident_is token.place token.kind
ident_is (Group' place n row) = tt

variable_is : (tree : Sexp) → IfParsed (variable tree) IsNamed
unfolding variable
variable_is (Leaf token) = kind_variable_is token.place token.kind
variable_is (Group' place n row) = tt

listed_is : (what : Item) (tree : Sexp) → IfParsed (listed what tree) IsNamed
listed_is item.Name tree = ident_is tree
listed_is item.Variable tree = variable_is tree

-- ---- typed lists

-- the names and the types of a typed list may be declared
abbrev pub AreGroups : List RawGroup → Type 0
AreGroups groups = HaveNames groups × HaveNamedTypes groups

abbrev GoesOn : Go → Type 0
GoesOn go = (names : List Ident) (due : Bool) → Every IsNamed names → IfParsed (go names due) AreGroups

last_is : (place : Place) (names : List Ident) (due : Bool) → Every IsNamed names → IfParsed (last_group place names due) AreGroups
last_is place names true are = tt
last_is place [] false are = (tt, tt)
last_is place (name ∷ names) false are = ((are, tt), (tt, tt))

minus_is : (tree : Sexp) (names : List Ident) (go : Go) → Every IsNamed names → GoesOn go → IfParsed (on_minus tree names go) AreGroups
minus_is tree [] go are on = tt
minus_is tree (name ∷ names) go are on = on (name ∷ names) true are

name_is : (v : Read Ident) (names : List Ident) (go : Go) → IfParsed v IsNamed → Every IsNamed names → GoesOn go → IfParsed (on_name v names go) AreGroups
name_is (parsed name) names go is are on = on (names ++ name ∷ []) false (every_behind IsNamed names name are is)
name_is (rejected f fs) names go is are on = tt

step_is : (what : Item) (tree : Sexp) (names : List Ident) (due : Bool) (go : Go) → Every IsNamed names → GoesOn go
    → IfParsed (typed_step what tree names due go) AreGroups
step_is what tree names true go are on =
    parsed_two IsNamed AreGroups AreGroups (λ t groups. record { names = names; of = Some t } ∷ groups) (ident tree) (go [] false)
    (λ t groups is more. ((are, more.0), (is, more.1))) (ident_is tree) (on [] false tt)
step_is what tree names false go are on =
    parsed_if AreGroups (is_minus tree) (on_minus tree names go) (on_name (listed what tree) names go) (minus_is tree names go are on)
    (name_is (listed what tree) names go (listed_is what tree) are on)

typed_is : (what : Item) (place : Place) (items : List Sexp) (names : List Ident) (due : Bool) → Every IsNamed names
    → IfParsed (typed what place items names due) AreGroups
typed_is what place [] names due are = last_is place names due are
typed_is what place (tree ∷ rest) names due are =
    step_is what tree names due (typed what place rest) are (λ ns d h. typed_is what place rest ns d h)

pub typed_list_is : (what : Item) (place : Place) (items : List Sexp) → IfParsed (typed_list what place items) AreGroups
typed_list_is what place items =
    parsed_behind AreGroups (lacking (ends_in_minus items) place) (typed what place items [] false) (typed_is what place items [] false tt)

variable_list_is : (place : Place) (items : List Sexp) → IfParsed (variable_list place items) AreGroups
variable_list_is place items =
    parsed_behind AreGroups (short (ends_in_minus items) place items) (typed item.Variable place items [] false) (typed_is item.Variable place items [] false tt)

pub variables_are : (tree : Sexp) → IfParsed (variables tree) AreGroups
unfolding variables
variables_are (Leaf token) = tt
variables_are (Group' place n row) = variable_list_is place (items-the_row-Sexp _ row)
