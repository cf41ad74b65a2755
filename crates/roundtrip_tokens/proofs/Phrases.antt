-- The tokens of terms, expressions and conditions.
use Rattle.std.proofs.Common.{◌≡◌, ℕ, Bool, true, List, [], ◌∷◌, ◌++◌, refl, inl, inr}
use Rattle.std.specs.Prelude.{codes, flat_map, IsSome, IsSomeAnd}
use Rattle.up_text.specs.declared.name.Name.{Name}
use Rattle.up_text.specs.Lists.{Every}
use Rattle.up_text.specs.Names.{IsName}
use Rattle.up_tree.specs.declared.term.Typed.{Typed}
use Rattle.up_tree.specs.declared.term.Term.{Term, Var, Object, Fluent', Row_of-Term, end_of-Term, more_of-Term}
use Rattle.up_tree.specs.declared.expr.Expr.{Expr, Number, Fluent}
use Rattle.up_tree.specs.declared.formula.Formula.{Formula, And', Or', Atom, Equal, Compare, Row_of-Formula, end_of-Formula, more_of-Formula}
use Rattle.up_tree.specs.declared.problem.Parts.{Parts}
use Rattle.up_tree.specs.declared.problem.Predicate.{Predicate}
use Rattle.up_tree.specs.declared.problem.Function.{Function}
use Rattle.up_tree.specs.Nodes.{not, imply, exists, forall, sum, difference, product, quotient}
use Rattle.up_tree.specs.Objects.{predicate_named, function_named}
use Rattle.up_tree.specs.WellFormed.{IsType, gives_object, IsTerm, RowFits, TermsFit, IsAtom, IsNumberTerm, GivesNumber, IsExpr, IsFormula, AreFormulas, AreVariables}
use Rattle.up_line.specs.Spaced.{spaced, joined}
use Rattle.pddl_lex.specs.declared.tree.TokenKind.{TokenKind}
use Rattle.pddl_write.specs.Phrases.{object_text, variable_text, variables_text, term_text, arguments_text, applied, expr_text, formula_text, members_text}
use Rattle.roundtrip_tokens.specs.Tokens.{object_tokens, variable_tokens, variables_tokens, term_tokens, arguments_tokens, applied_tokens, expr_tokens, formula_tokens, members_tokens}
use Rattle.roundtrip_tokens.proofs.Lexes.{Lexes, quantified, is_apart, behind, follows, no_text, one_space, word, variable, headed, called, one_operand, two_operands, over_operand}
use Rattle.roundtrip_tokens.proofs.Named.{Spelled, found_spelled, and_some, found_and, every-append, every-each, every-both}
use Rattle.roundtrip_tokens.proofs.Numbers.{number}
use Rattle.roundtrip_tokens.proofs.Signs.{plus, minus, times, slash, same, compared, of_type, type_apart}

-- ---- rows with spaces

module _ {X : Type 0} (text : X → List ℕ) (tokens : X → List TokenKind) where
  pub spaced_apart : (xs : List X) → is_apart (spaced text xs) ≡ true
  spaced_apart [] = refl
  spaced_apart (x ∷ xs) = refl

  pub spaced_each : (P : X → Type 0) → ((x : X) → P x → Lexes (text x) (tokens x)) → (xs : List X) → Every P xs → Lexes (spaced text xs) (flat_map tokens xs)
  spaced_each P each [] all = no_text
  spaced_each P each (x ∷ xs) all = follows (behind one_space (each x all.0)) (spaced_apart xs) (spaced_each P each xs all.1)

  pub joined_each : (P : X → Type 0) → ((x : X) → P x → Lexes (text x) (tokens x)) → (xs : List X) → Every P xs → Lexes (joined text xs) (flat_map tokens xs)
  joined_each P each [] all = no_text
  joined_each P each (x ∷ xs) all = follows (each x all.0) (spaced_apart xs) (spaced_each P each xs all.1)

-- ---- the names of the parts of a problem

-- the declared names are names
pub record AreSpelled (p : Parts) : Type 0 where
  pub types : Every (λ t. Spelled t.name) p.types
  pub predicates : Every (λ d. Spelled d.name) p.predicates
  pub functions : Every (λ d. Spelled d.name) p.functions

pub type_spelled : (p : Parts) → AreSpelled p → (t : Name) → IsType p t → Spelled t
type_spelled p names t (inl top) = rw top refl
type_spelled p names t (inr some) = found_spelled (λ e. e.name) p.types t names.types some

-- each name is one
abbrev pub AllSpelled : List Typed → Type 0
AllSpelled entries = Every (λ e. Spelled e.name) entries

abbrev pub BothSpelled : Typed → Type 0
BothSpelled v = Spelled v.name × Spelled v.of

module _ (p : Parts) (names : AreSpelled p) (typed : Bool) where
  pub typed_object : (o : Typed) → BothSpelled o → Lexes (object_text typed o) (object_tokens typed o)
  typed_object o is = follows (word o.name is.0) (type_apart typed o.of) (of_type typed o.of is.1)

  typed_variable : (v : Typed) → BothSpelled v → Lexes (variable_text typed v) (variable_tokens typed v)
  typed_variable v is = follows (variable v.name is.0) (type_apart typed v.of) (of_type typed v.of is.1)

  pub scope_spelled : (scope vars : List Typed) → AreVariables p scope vars → AllSpelled vars
  scope_spelled scope vars are = every-each (λ v. IsName v.name) (λ v. Spelled v.name) (λ v is. is.spelled) vars are.names_all

  pub variables : (scope vars : List Typed) → AreVariables p scope vars → Lexes (variables_text typed vars) (variables_tokens typed vars)
  variables scope vars are =
      let types : Every (λ v. Spelled v.of) vars = every-each (λ v. IsType p v.of) (λ v. Spelled v.of) (λ v is. type_spelled p names v.of is) vars are.typed in
      joined_each (variable_text typed) (variable_tokens typed) BothSpelled typed_variable vars
      (every-both (λ v. Spelled v.name) (λ v. Spelled v.of) vars (scope_spelled scope vars are) types)

-- ---- terms, expressions and conditions

module _ (p : Parts) (names : AreSpelled p) (objects : List Typed) (objects_spelled : AllSpelled objects) where
  arguments_apart : {n : _} (ts : Row_of-Term n) → is_apart (arguments_text ts) ≡ true
  unfolding arguments_text
  arguments_apart end_of-Term = refl
  arguments_apart (more_of-Term t ts) = refl

  mutual
    unfolding IsTerm RowFits term_text arguments_text term_tokens arguments_tokens

    pub term : (scope : List Typed) → AllSpelled scope → (t : Term) → IsTerm p objects scope t → Lexes (term_text t) (term_tokens t)
    term scope vs (Var v) is = variable v (found_spelled (λ e. e.name) scope v vs is)
    term scope vs (Object o) is = word o (found_spelled (λ e. e.name) objects o objects_spelled is)
    term scope vs (Fluent' f n ts) is =
        let Fits : Function → Type 0 = λ d. IsSome (gives_object d.gives) × RowFits p objects scope ts d.args in
        let (d, here, known) = found_and Fits (function_named p f) is in
        called f (found_spelled (λ e. e.name) p.functions f names.functions (and_some Fits (function_named p f) is))
        (arguments_apart ts) (arguments scope vs ts d.args known.1)

    arguments : (scope : List Typed) → AllSpelled scope → {n : _} (ts : Row_of-Term n) (types : List Name) → RowFits p objects scope ts types → Lexes (arguments_text ts) (arguments_tokens ts)
    arguments scope vs end_of-Term types fits = no_text
    arguments scope vs (more_of-Term t ts) [] fits = absurd fits
    arguments scope vs (more_of-Term t ts) (of ∷ types) fits =
        follows (behind one_space (term scope vs t fits.0)) (arguments_apart ts) (arguments scope vs ts types fits.2)

  module _ (scope : List Typed) (vs : AllSpelled scope) where
    terms_fit : (ts : List Term) (types : List Name) → TermsFit p objects scope ts types → Every (IsTerm p objects scope) ts
    terms_fit [] types fits = tt
    terms_fit (t ∷ ts) [] fits = absurd fits
    terms_fit (t ∷ ts) (of ∷ types) fits = (fits.0.0, terms_fit ts types fits.1)

    at_terms : (name : Name) → Spelled name → (ts : List Term) (types : List Name) → TermsFit p objects scope ts types → Lexes (applied name ts) (applied_tokens name ts)
    at_terms name is ts types fits =
        called name is (spaced_apart term_text term_tokens ts) (spaced_each term_text term_tokens (IsTerm p objects scope) (term scope vs) ts (terms_fit ts types fits))

    pub atom : (name : Name) (ts : List Term) → IsAtom p objects scope name ts → Lexes (applied name ts) (applied_tokens name ts)
    atom name ts is =
        let Fits : Predicate → Type 0 = λ d. TermsFit p objects scope ts d.args in
        let (d, here, known) = found_and Fits (predicate_named p name) is in
        at_terms name (found_spelled (λ e. e.name) p.predicates name names.predicates (and_some Fits (predicate_named p name) is)) ts d.args known

    -- a function at terms that fit, of which something more is known
    pub function_term : (Of : Function → Type 0) (f : Name) (ts : List Term) → IsSomeAnd (function_named p f) (λ d. TermsFit p objects scope ts d.args × Of d)
        → Lexes (applied f ts) (applied_tokens f ts)
    function_term Of f ts is =
        let Fits : Function → Type 0 = λ d. TermsFit p objects scope ts d.args × Of d in
        let (d, here, known) = found_and Fits (function_named p f) is in
        at_terms f (found_spelled (λ e. e.name) p.functions f names.functions (and_some Fits (function_named p f) is)) ts d.args known.0

    pub number_term : (f : Name) (ts : List Term) → IsNumberTerm p objects scope f ts → Lexes (applied f ts) (applied_tokens f ts)
    number_term f ts is =
        let Fits : Function → Type 0 = λ d. GivesNumber d.gives × TermsFit p objects scope ts d.args in
        let (d, here, known) = found_and Fits (function_named p f) is in
        at_terms f (found_spelled (λ e. e.name) p.functions f names.functions (and_some Fits (function_named p f) is)) ts d.args known.1

    pub expr : (x : Expr) → IsExpr p objects scope x → Lexes (expr_text x) (expr_tokens x)
    unfolding IsExpr expr_text expr_tokens
    expr (Number n) is = number n is
    expr (Fluent f ts) is = number_term f ts is
    expr (sum a b) is = two_operands plus (expr a is.0) (expr b is.1)
    expr (difference a b) is = two_operands minus (expr a is.0) (expr b is.1)
    expr (product a b) is = two_operands times (expr a is.0) (expr b is.1)
    expr (quotient a b) is = two_operands slash (expr a is.0) (expr b is.1)

  members_apart : (typed : Bool) {n : _} (fs : Row_of-Formula n) → is_apart (members_text typed fs) ≡ true
  unfolding members_text
  members_apart typed end_of-Formula = refl
  members_apart typed (more_of-Formula f fs) = refl

  mutual
    unfolding IsFormula AreFormulas formula_text members_text formula_tokens members_tokens

    pub formula : (typed : Bool) (scope : List Typed) → AllSpelled scope → (f : Formula) → IsFormula p objects scope f → Lexes (formula_text typed f) (formula_tokens typed f)
    formula typed scope vs (And' n fs) is = called (codes "and") refl (members_apart typed fs) (members typed scope vs fs is)
    formula typed scope vs (Or' n fs) is = called (codes "or") refl (members_apart typed fs) (members typed scope vs fs is)
    formula typed scope vs (not f) is = one_operand (headed (codes "not") refl) (formula typed scope vs f is)
    formula typed scope vs (imply f g) is = two_operands (headed (codes "imply") refl) (formula typed scope vs f is.0) (formula typed scope vs g is.1)
    formula typed scope vs (exists vars f) is =
        let inner : AllSpelled (vars ++ scope) = every-append (λ v. Spelled v.name) vars scope (scope_spelled p names typed scope vars is.0) vs in
        over_operand (quantified (codes "exists") refl) (variables p names typed scope vars is.0) (formula typed (vars ++ scope) inner f is.1)
    formula typed scope vs (forall vars f) is =
        let inner : AllSpelled (vars ++ scope) = every-append (λ v. Spelled v.name) vars scope (scope_spelled p names typed scope vars is.0) vs in
        over_operand (quantified (codes "forall") refl) (variables p names typed scope vars is.0) (formula typed (vars ++ scope) inner f is.1)
    formula typed scope vs (Atom name ts) is = atom scope vs name ts is
    formula typed scope vs (Equal t u) is = two_operands same (term scope vs t is.0) (term scope vs u is.1)
    formula typed scope vs (Compare r a b) is = two_operands (compared r) (expr scope vs a is.0) (expr scope vs b is.1)

    members : (typed : Bool) (scope : List Typed) → AllSpelled scope → {n : _} (fs : Row_of-Formula n) → AreFormulas p objects scope fs → Lexes (members_text typed fs) (members_tokens typed fs)
    members typed scope vs end_of-Formula is = no_text
    members typed scope vs (more_of-Formula f fs) is =
        follows (behind one_space (formula typed scope vs f is.0)) (members_apart typed fs) (members typed scope vs fs is.1)
