-- What the definitions say of a tree as code takes it apart.
use Rattle.std.proofs.Common.{◌≡◌, ℕ, List, [], ◌∷◌, map, refl, ap, sym, ◌∙◌}
use Rattle.up_text.specs.declared.place.Place.{Place}
use Rattle.pddl_lex.specs.declared.tree.Token.{Token}
use Rattle.pddl_lex.specs.declared.tree.Sexp.{Sexp, Leaf, Group, Row_of-Sexp, end_of-Sexp, more_of-Sexp, items-the_row-Sexp, items_hidden-the_row-Sexp-0}
use Rattle.pddl_lex.specs.declared.tree.Sexp.TheBlock.{hidden-the_row-Sexp-0}
use Rattle.pddl_lex.specs.Parses.{rejected}
use Rattle.pddl_parse.specs.declared.head.Head.TheVariants as head
use Rattle.pddl_parse.specs.declared.head.EffectHead.TheVariants as effect
use Rattle.pddl_parse.specs.declared.head.ConstraintHead.TheVariants as constraint
use Rattle.pddl_parse.specs.declared.action.ActionHead.TheVariants as action
use Rattle.pddl_parse.specs.declared.shape.ShapeError.TheVariants.{LeftOut}
use Rattle.pddl_parse.specs.Actions.{action_head, key_kind}
use Rattle.pddl_parse.specs.Sections.{keyword_of, keyword_kind}
use Rattle.pddl_parse.specs.Brackets.{bracket, is_none, is_empty, is_keyword_kind, is_keyword, is_headed, is_section, is_word_kind, is_word}
use Rattle.pddl_parse.specs.Effects.{effect_kind, effect_head, effect, effects, in_effect}
use Rattle.pddl_parse.specs.Constraints.{constraint_kind, constraint_head, constraint, constraints, in_constraint, unknown, unknown_kind}
use Rattle.pddl_parse.specs.Starts.{is_same_kind, is_same, initial_value, kind_value}
use Rattle.std.specs.Prelude.{None, false}
use Rattle.pddl_parse.specs.Shapes.{Read, misfit, misfit_token, misfit_group, ident, kind_ident, variable, kind_variable}
use Rattle.pddl_parse.specs.Terms.{term, terms, in_term, kind_term, operator_of, kind_operator}
use Rattle.pddl_parse.specs.TypedLists.{variables, variable_list, is_minus, is_minus_kind}
use Rattle.pddl_parse.specs.Formulas.{formula, formulas, in_formula, head_of, kind_head}

pub misfit-Leaf : (token : Token) → misfit (Leaf token) ≡ misfit_token token.place token
unfolding misfit
misfit-Leaf token = refl

pub misfit-Group : (place : Place) (items : List Sexp) → misfit (Group place items) ≡ misfit_group place items
unfolding misfit
misfit-Group place items = ap (misfit_group place) (items_hidden-the_row-Sexp-0 items)

pub ident-Leaf : (token : Token) → ident (Leaf token) ≡ kind_ident token.place token.kind
unfolding ident
ident-Leaf token = refl

pub ident-Group : (place : Place) (items : List Sexp) → ident (Group place items) ≡ rejected (misfit (Group place items)) []
unfolding ident
ident-Group place items = refl

pub variable-Leaf : (token : Token) → variable (Leaf token) ≡ kind_variable token.place token.kind
unfolding variable
variable-Leaf token = refl

pub variable-Group : (place : Place) (items : List Sexp) → variable (Group place items) ≡ rejected (misfit (Group place items)) []
unfolding variable
variable-Group place items = refl

pub is_minus-Leaf : (token : Token) → is_minus (Leaf token) ≡ is_minus_kind token.kind
unfolding is_minus
is_minus-Leaf token = refl

pub is_minus-Group : (place : Place) (items : List Sexp) → is_minus (Group place items) ≡ false
unfolding is_minus
is_minus-Group place items = refl

pub variables-Leaf : (token : Token) → variables (Leaf token) ≡ rejected (misfit_token token.place token) []
unfolding variables
variables-Leaf token = refl

pub variables-Group : (place : Place) (items : List Sexp) → variables (Group place items) ≡ variable_list place items
unfolding variables
variables-Group place items = ap (variable_list place) (items_hidden-the_row-Sexp-0 items)

pub operator_of-Leaf : (token : Token) → operator_of (Leaf token) ≡ kind_operator token.kind
unfolding operator_of
operator_of-Leaf token = refl

pub operator_of-Group : (place : Place) (items : List Sexp) → operator_of (Group place items) ≡ None
unfolding operator_of
operator_of-Group place items = refl

pub term-Leaf : (token : Token) → term (Leaf token) ≡ kind_term token.place token.kind
unfolding term
term-Leaf token = refl

pub terms-items : {n : _} (row : Row_of-Sexp n) → terms row ≡ map term (items-the_row-Sexp _ row)
unfolding term terms
terms-items end_of-Sexp = refl
terms-items (more_of-Sexp tree row) = ap (λ ts. term tree ∷ ts) (terms-items row)

pub term-Group : (place : Place) (items : List Sexp) → term (Group place items) ≡ in_term place items (map term items)
unfolding term
term-Group place items =
    ap (in_term place (items-the_row-Sexp _ (hidden-the_row-Sexp-0 items))) (terms-items (hidden-the_row-Sexp-0 items))
    ∙ ap (λ xs. in_term place xs (map term xs)) (items_hidden-the_row-Sexp-0 items)

pub head_of-Leaf : (token : Token) → head_of (Leaf token) ≡ kind_head token.kind
unfolding head_of
head_of-Leaf token = refl

pub head_of-Group : (place : Place) (items : List Sexp) → head_of (Group place items) ≡ head.Other
unfolding head_of
head_of-Group place items = refl

pub formula-Leaf : (token : Token) → formula (Leaf token) ≡ rejected (misfit_token token.place token) []
unfolding formula
formula-Leaf token = refl

pub formulas-items : {n : _} (row : Row_of-Sexp n) → formulas row ≡ map formula (items-the_row-Sexp _ row)
unfolding formula formulas
formulas-items end_of-Sexp = refl
formulas-items (more_of-Sexp tree row) = ap (λ fs. formula tree ∷ fs) (formulas-items row)

pub formula-Group : (place : Place) (items : List Sexp) → formula (Group place items) ≡ in_formula place items (map formula items)
unfolding formula
formula-Group place items =
    ap (in_formula place (items-the_row-Sexp _ (hidden-the_row-Sexp-0 items))) (formulas-items (hidden-the_row-Sexp-0 items))
    ∙ ap (λ xs. in_formula place xs (map formula xs)) (items_hidden-the_row-Sexp-0 items)

pub bracket-Leaf : {A : Type 0} (f : Place → List Sexp → Read A) (token : Token) → bracket f (Leaf token) ≡ rejected (misfit_token token.place token) []
unfolding bracket
bracket-Leaf f token = refl

pub bracket-Group : {A : Type 0} (f : Place → List Sexp → Read A) (place : Place) (items : List Sexp) → bracket f (Group place items) ≡ f place items
unfolding bracket
bracket-Group f place items = ap (f place) (items_hidden-the_row-Sexp-0 items)

pub is_empty-Leaf : (token : Token) → is_empty (Leaf token) ≡ false
unfolding is_empty
is_empty-Leaf token = refl

pub is_empty-Group : (place : Place) (items : List Sexp) → is_empty (Group place items) ≡ is_none items
unfolding is_empty
is_empty-Group place items = ap is_none (items_hidden-the_row-Sexp-0 items)

pub is_keyword-Leaf : (word : List ℕ) (token : Token) → is_keyword word (Leaf token) ≡ is_keyword_kind word token.kind
unfolding is_keyword
is_keyword-Leaf word token = refl

pub is_keyword-Group : (word : List ℕ) (place : Place) (items : List Sexp) → is_keyword word (Group place items) ≡ false
unfolding is_keyword
is_keyword-Group word place items = refl

pub is_section-Leaf : (word : List ℕ) (token : Token) → is_section word (Leaf token) ≡ false
unfolding is_section
is_section-Leaf word token = refl

pub is_section-Group : (word : List ℕ) (place : Place) (items : List Sexp) → is_section word (Group place items) ≡ is_headed word items
unfolding is_section
is_section-Group word place items = ap (is_headed word) (items_hidden-the_row-Sexp-0 items)

pub is_word-Leaf : (word : List ℕ) (token : Token) → is_word word (Leaf token) ≡ is_word_kind word token.kind
unfolding is_word
is_word-Leaf word token = refl

pub is_word-Group : (word : List ℕ) (place : Place) (items : List Sexp) → is_word word (Group place items) ≡ false
unfolding is_word
is_word-Group word place items = refl

pub effect_head-Leaf : (token : Token) → effect_head (Leaf token) ≡ effect_kind token.kind
unfolding effect_head
effect_head-Leaf token = refl

pub effect_head-Group : (place : Place) (items : List Sexp) → effect_head (Group place items) ≡ effect.Other
unfolding effect_head
effect_head-Group place items = refl

pub effect-Leaf : (token : Token) → effect (Leaf token) ≡ rejected (misfit_token token.place token) []
unfolding effect
effect-Leaf token = refl

pub effects-items : {n : _} (row : Row_of-Sexp n) → effects row ≡ map effect (items-the_row-Sexp _ row)
unfolding effect effects
effects-items end_of-Sexp = refl
effects-items (more_of-Sexp tree row) = ap (λ es. effect tree ∷ es) (effects-items row)

pub effect-Group : (place : Place) (items : List Sexp) → effect (Group place items) ≡ in_effect place items (map effect items)
unfolding effect
effect-Group place items =
    ap (in_effect place (items-the_row-Sexp _ (hidden-the_row-Sexp-0 items))) (effects-items (hidden-the_row-Sexp-0 items))
    ∙ ap (λ xs. in_effect place xs (map effect xs)) (items_hidden-the_row-Sexp-0 items)

pub constraint_head-Leaf : (token : Token) → constraint_head (Leaf token) ≡ constraint_kind token.kind
unfolding constraint_head
constraint_head-Leaf token = refl

pub constraint_head-Group : (place : Place) (items : List Sexp) → constraint_head (Group place items) ≡ constraint.Other
unfolding constraint_head
constraint_head-Group place items = refl

pub unknown-Leaf : (place : Place) (token : Token) → unknown place (Leaf token) ≡ unknown_kind place token.place token.kind
unfolding unknown
unknown-Leaf place token = refl

pub unknown-Group : (place at : Place) (items : List Sexp) → unknown place (Group at items) ≡ LeftOut place
unfolding unknown
unknown-Group place at items = refl

pub constraint-Leaf : (token : Token) → constraint (Leaf token) ≡ rejected (misfit_token token.place token) []
unfolding constraint
constraint-Leaf token = refl

pub constraints-items : {n : _} (row : Row_of-Sexp n) → constraints row ≡ map constraint (items-the_row-Sexp _ row)
unfolding constraint constraints
constraints-items end_of-Sexp = refl
constraints-items (more_of-Sexp tree row) = ap (λ es. constraint tree ∷ es) (constraints-items row)

pub constraint-Group : (place : Place) (items : List Sexp) → constraint (Group place items) ≡ in_constraint place items (map constraint items)
unfolding constraint
constraint-Group place items =
    ap (in_constraint place (items-the_row-Sexp _ (hidden-the_row-Sexp-0 items))) (constraints-items (hidden-the_row-Sexp-0 items))
    ∙ ap (λ xs. in_constraint place xs (map constraint xs)) (items_hidden-the_row-Sexp-0 items)

pub is_same-Leaf : (token : Token) → is_same (Leaf token) ≡ is_same_kind token.kind
unfolding is_same
is_same-Leaf token = refl

pub is_same-Group : (place : Place) (items : List Sexp) → is_same (Group place items) ≡ false
unfolding is_same
is_same-Group place items = refl

pub initial_value-Leaf : (token : Token) → initial_value (Leaf token) ≡ kind_value token.place token.kind
unfolding initial_value
initial_value-Leaf token = refl

pub initial_value-Group : (place : Place) (items : List Sexp) → initial_value (Group place items) ≡ rejected (misfit (Group place items)) []
unfolding initial_value
initial_value-Group place items = refl

pub action_head-Leaf : (token : Token) → action_head (Leaf token) ≡ key_kind token.kind
unfolding action_head
action_head-Leaf token = refl

pub action_head-Group : (place : Place) (items : List Sexp) → action_head (Group place items) ≡ action.NoKey
unfolding action_head
action_head-Group place items = refl

pub keyword_of-Leaf : (token : Token) → keyword_of (Leaf token) ≡ keyword_kind token.kind
unfolding keyword_of
keyword_of-Leaf token = refl

pub keyword_of-Group : (place : Place) (items : List Sexp) → keyword_of (Group place items) ≡ None
unfolding keyword_of
keyword_of-Group place items = refl

pub ruleset nodes = (
  misfit-Leaf,
  misfit-Group,
  ident-Leaf,
  ident-Group,
  variable-Leaf,
  variable-Group,
  is_minus-Leaf,
  is_minus-Group,
  variables-Leaf,
  variables-Group,
  operator_of-Leaf,
  operator_of-Group,
  term-Leaf,
  term-Group,
  head_of-Leaf,
  head_of-Group,
  formula-Leaf,
  formula-Group,
)

pub ruleset marks = (
  bracket-Leaf,
  bracket-Group,
  is_empty-Leaf,
  is_empty-Group,
  is_keyword-Leaf,
  is_keyword-Group,
  is_section-Leaf,
  is_section-Group,
  is_word-Leaf,
  is_word-Group,
  misfit-Leaf,
)

pub ruleset effect_nodes = (
  effect_head-Leaf,
  effect_head-Group,
  effect-Leaf,
  effect-Group,
  misfit-Leaf,
)

pub ruleset constraint_nodes = (
  constraint_head-Leaf,
  constraint_head-Group,
  unknown-Leaf,
  unknown-Group,
  constraint-Leaf,
  constraint-Group,
  misfit-Leaf,
)

pub ruleset start_nodes = (
  is_same-Leaf,
  is_same-Group,
  initial_value-Leaf,
  initial_value-Group,
)

pub ruleset section_nodes = (action_head-Leaf, action_head-Group, keyword_of-Leaf, keyword_of-Group, bracket-Leaf, bracket-Group, misfit-Leaf)
