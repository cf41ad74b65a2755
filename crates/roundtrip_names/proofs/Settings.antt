-- What has no object function's value and no comparison is read as itself in a constraint and in a metric too.
use Rattle.std.proofs.Common.{◌≡◌, Bool, List, [], ◌∷◌, ◌++◌, map, Option, Some, None, refl, ap, sym, ◌∙◌}
use Rattle.up_text.specs.declared.name.Name.{Name}
use Rattle.up_text.specs.declared.place.Place.{Place}
use Rattle.up_tree.specs.declared.term.Typed.{Typed}
use Rattle.up_tree.specs.declared.term.Term.{Term, Var, Object, Fluent'}
use Rattle.up_tree.specs.declared.expr.Expr.{Expr, Number, Fluent}
use Rattle.up_tree.specs.declared.formula.Formula.{Formula, And, And', Or, Or', Not, Exists, Forall, Atom, Equal, Compare, Row_of-Formula, end_of-Formula, more_of-Formula, items-the_row-Formula}
use Rattle.up_tree.specs.declared.problem.Predicate.{Predicate}
use Rattle.up_tree.specs.declared.problem.Function.{Function}
use Rattle.up_tree.specs.declared.problem.Parts.{Parts}
use Rattle.up_tree.specs.Nodes.{sum, difference, product, quotient, not, imply, exists, forall}
use Rattle.up_tree.specs.Objects.{type_in, predicate_named, function_named}
use Rattle.up_tree.specs.WellFormed as tree
use Rattle.up_tree.specs.WellFormed.{GivesNumber, TermsFit, AreFormulas, term_type, HasNoFluent, IsPlainExpr, IsPlain, ArePlain, IsExpr, IsFormula}
use Rattle.pddl_lex.specs.Parses.{parsed, over, all}
use Rattle.pddl_parse.specs.declared.raw.Operator.{Operator}
use Rattle.pddl_parse.specs.declared.raw.Operator.TheVariants as operator
use Rattle.pddl_parse.specs.declared.raw.Relation.TheVariants as stated
use Rattle.pddl_parse.specs.declared.raw.RawTerm as raw
use Rattle.pddl_parse.specs.declared.raw.RawTerm.{RawTerm}
use Rattle.pddl_parse.specs.declared.raw.RawFormula.{RawFormula}
use Rattle.pddl_parse.specs.Forms.{ident_at}
use Rattle.up_phrase.specs.declared.term.Setting.{Setting}
use Rattle.up_phrase.specs.Conditions.{predicate, atom_args, formula}
use Rattle.up_phrase.specs.Declarations.{Declarations}
use Rattle.up_phrase.specs.Exprs.{numeric_function, binary, expr}
use Rattle.up_phrase.specs.Lookups.{predicate_of, function_of}
use Rattle.up_phrase.specs.Scopes.{Variables}
use Rattle.up_phrase.specs.Terms.{of_type, term}
use Rattle.up_phrase.proofs.TermNodes.{term-Name, term-Variable}
use Rattle.up_phrase.proofs.ExprNodes.{expr-Number, expr-Call, expr-Arithmetic}
use Rattle.up_phrase.proofs.FormulaNodes.{formula-And, formula-Or, formula-Not, formula-Imply, formula-Exists, formula-Forall, formula-Atom, formula-Compare}
use Rattle.roundtrip_tokens.proofs.Named.{found_and}
use Rattle.roundtrip_shapes.specs.Raw.{at, empty, first, a_variable, an_object, a_number, a_call, arithmetic as an_arithmetic, an_and, an_or, a_not, an_imply, an_exists, a_forall, an_atom, a_compare, IsRawTerm, AreRawTerms, IsRawExpr, IsRawFormula, AreRawMembers}
use Rattle.roundtrip_names.specs.Declared.{entry, Declares, SameScope, TypesWritten}
use Rattle.roundtrip_names.specs.Due.{IsDue}
use Rattle.roundtrip_names.proofs.Found.{object_found, object_typed}
use Rattle.roundtrip_names.proofs.Terms.{ReadsAs, none_read, one_more_read, applied_read, typed_read, typed_some}
use Rattle.roundtrip_names.proofs.Exprs.{sum_built, difference_built, product_built, quotient_built, two_operands, numeric_read, term_not_numeric}
use Rattle.roundtrip_names.proofs.Entered.{scope_grown}
use Rattle.roundtrip_names.proofs.Conditions.{and_rebuilt, or_rebuilt, not_built, imply_built, exists_built, forall_built, predicate_read, quantifier_read}

first_plain : (t : Term) (ts : List Term) → HasNoFluent (t ∷ ts) → HasNoFluent (t ∷ []) × HasNoFluent ts
first_plain (Var v) ts plain = (tt, plain)
first_plain (Object o) ts plain = (tt, plain)
first_plain (Fluent' f n us) ts plain = absurd plain

module _ (names : Declarations) (p : Parts) (objects : List Typed) (agree : Declares names p objects) (s : Setting) where
  module _ (scope : List Typed) (vars : Variables) (same : SameScope scope vars) where
    plain_term_read : (t : Term) → HasNoFluent (t ∷ []) → tree.IsTerm p objects scope t → (due : Option Name) → IsDue p (term_type p scope t) due
        → (raw : RawTerm) → IsRawTerm t raw → term names vars s raw due ≡ parsed t
    unfolding tree.IsTerm IsRawTerm
    plain_term_read (Var v) plain is due fits _ (a_variable _ (at place)) =
        term-Variable names vars s (ident_at v place) due ∙ ap (of_type names (ident_at v place) (Var v) due) (same v)
        ∙ typed_read names p objects agree scope vars same (ident_at v place) (Var v) due (type_in scope v) (typed_some names p objects agree scope vars same scope v is) fits
    plain_term_read (Object o) plain is due fits _ (an_object _ (at place)) =
        term-Name names vars s (ident_at o place) due ∙ ap (of_type names (ident_at o place) (Object o) due) (object_found names p objects agree o ∙ sym (object_typed names p objects agree o is))
        ∙ typed_read names p objects agree scope vars same (ident_at o place) (Object o) due (type_in p.objects o)
        (rw (object_typed names p objects agree o is) (typed_some names p objects agree scope vars same objects o is)) fits
    plain_term_read (Fluent' f n ts) plain is due fits raw so = absurd plain

    plain_terms_read : (ts : List Term) (types : List Name) → HasNoFluent ts → TermsFit p objects scope ts types
        → (args : List RawTerm) → AreRawTerms ts args → ReadsAs (term names vars s) types args ts
    plain_terms_read [] [] plain fits _ empty = none_read (term names vars s)
    plain_terms_read [] (of ∷ types) plain fits args are = absurd fits
    plain_terms_read (t ∷ ts) [] plain fits args are = absurd fits
    plain_terms_read (t ∷ ts) (of ∷ types) plain fits _ (first arg args is are) =
        let plains = first_plain t ts plain in
        one_more_read (term names vars s) of types arg args t ts (plain_term_read t plains.0 fits.0.0 (Some of) fits.0.1 arg is) (plain_terms_read ts types plains.1 fits.1 args are)

    plain_pair_read : (op : Operator) (place : Place) (x y : RawTerm) (a b : Expr) → expr names vars s x ≡ parsed a → expr names vars s y ≡ parsed b
        → expr names vars s (raw.Arithmetic place op (x ∷ y ∷ [])) ≡ parsed (binary op a b)
    plain_pair_read op place x y a b one two = expr-Arithmetic names vars s place op (x ∷ y ∷ []) ∙ rw (one, two) (two_operands op place a b)

    pub plain_expr_read : (x : Expr) → IsPlainExpr x → tree.IsExpr p objects scope x → (raw : RawTerm) → IsRawExpr x raw → expr names vars s raw ≡ parsed x
    unfolding IsPlainExpr tree.IsExpr IsRawExpr
    plain_expr_read (Number n) plain is _ (a_number place) = expr-Number names vars s place n
    plain_expr_read (Fluent f ts) plain is _ (a_call place _ args (at there) are) =
        let Fits : Function → Type 0 = λ d. GivesNumber d.gives × TermsFit p objects scope ts d.args in
        let (d, here, known) = found_and Fits (function_named p f) is in
        expr-Call names vars s place (ident_at f there) args
        ∙ ap (over (λ us. Fluent f us)) (applied_read (term names vars s) place f (numeric_function (ident_at f there) (function_of names f)) d.args args ts
        (numeric_read names p objects agree (ident_at f there) d here known.0) (plain_terms_read ts d.args plain known.1 args are))
    plain_expr_read (sum a b) plain is _ (an_arithmetic place x y so_a so_b) =
        plain_pair_read operator.Sum place x y a b (plain_expr_read a plain.0 is.0 x so_a) (plain_expr_read b plain.1 is.1 y so_b) ∙ ap parsed (sum_built a b)
    plain_expr_read (difference a b) plain is _ (an_arithmetic place x y so_a so_b) =
        plain_pair_read operator.Difference place x y a b (plain_expr_read a plain.0 is.0 x so_a) (plain_expr_read b plain.1 is.1 y so_b) ∙ ap parsed (difference_built a b)
    plain_expr_read (product a b) plain is _ (an_arithmetic place x y so_a so_b) =
        plain_pair_read operator.Product place x y a b (plain_expr_read a plain.0 is.0 x so_a) (plain_expr_read b plain.1 is.1 y so_b) ∙ ap parsed (product_built a b)
    plain_expr_read (quotient a b) plain is _ (an_arithmetic place x y so_a so_b) =
        plain_pair_read operator.Quotient place x y a b (plain_expr_read a plain.0 is.0 x so_a) (plain_expr_read b plain.1 is.1 y so_b) ∙ ap parsed (quotient_built a b)

  module _ (written : Bool) (all_written : TypesWritten written p) where
    plain_atom_read : (scope : List Typed) (vars : Variables) → SameScope scope vars → (name : Name) (ts : List Term) → HasNoFluent ts → tree.IsAtom p objects scope name ts
        → (place there : Place) (args : List RawTerm) → AreRawTerms ts args → atom_args names vars s place (ident_at name there) args ≡ parsed ts
    plain_atom_read scope vars same name ts plain is place there args are =
        let Fits : Predicate → Type 0 = λ d. TermsFit p objects scope ts d.args in
        let (d, here, known) = found_and Fits (predicate_named p name) is in
        applied_read (term names vars s) place name (predicate (ident_at name there) (predicate_of names name)) d.args args ts
        (predicate_read names p objects agree written all_written (ident_at name there) d here) (plain_terms_read scope vars same ts d.args plain known args are)

    mutual
      unfolding IsPlain ArePlain tree.IsFormula AreFormulas IsRawFormula AreRawMembers

      pub plain_formula_read : (f : Formula) (scope : List Typed) (vars : Variables) → SameScope scope vars → IsPlain f → tree.IsFormula p objects scope f
          → (raw : RawFormula) → IsRawFormula written f raw → formula names vars s raw ≡ parsed f
      plain_formula_read (And' n fs) scope vars same plain is _ (an_and raws are) =
          formula-And names vars s raws ∙ ap (over And) (plain_members_read fs scope vars same plain is raws are) ∙ ap parsed (sym (and_rebuilt n fs))
      plain_formula_read (Or' n fs) scope vars same plain is _ (an_or raws are) =
          formula-Or names vars s raws ∙ ap (over Or) (plain_members_read fs scope vars same plain is raws are) ∙ ap parsed (sym (or_rebuilt n fs))
      plain_formula_read (not f) scope vars same plain is _ (a_not x so) =
          formula-Not names vars s x ∙ ap (over Not) (plain_formula_read f scope vars same plain is x so) ∙ ap parsed (not_built f)
      plain_formula_read (imply f g) scope vars same plain is _ (an_imply x y so_f so_g) =
          formula-Imply names vars s x y
          ∙ rw (plain_formula_read f scope vars same plain.0 is.0 x so_f, plain_formula_read g scope vars same plain.1 is.1 y so_g) (ap parsed (imply_built f g))
      plain_formula_read (exists new f) scope vars same plain is _ (an_exists groups x so_vars so) =
          formula-Exists names vars s groups x
          ∙ ap (over (λ (q : List Typed × Formula). Exists q.0 q.1)) (quantifier_read names p objects agree written all_written s scope vars same new f is.0 groups x so_vars
          (plain_formula_read f (new ++ scope) (vars ++ map entry new) (scope_grown scope new vars same is.0.fresh) plain is.1 x so))
          ∙ ap parsed (exists_built new f)
      plain_formula_read (forall new f) scope vars same plain is _ (a_forall groups x so_vars so) =
          formula-Forall names vars s groups x
          ∙ ap (over (λ (q : List Typed × Formula). Forall q.0 q.1)) (quantifier_read names p objects agree written all_written s scope vars same new f is.0 groups x so_vars
          (plain_formula_read f (new ++ scope) (vars ++ map entry new) (scope_grown scope new vars same is.0.fresh) plain is.1 x so))
          ∙ ap parsed (forall_built new f)
      plain_formula_read (Atom name ts) scope vars same plain is _ (an_atom place _ args (at there) are) =
          formula-Atom names vars s place (ident_at name there) args ∙ ap (over (λ us. Atom name us)) (plain_atom_read scope vars same name ts plain is place there args are)
      plain_formula_read (Equal t u) scope vars same plain is _ (a_compare place a b so_t so_u) =
          let plains = first_plain t (u ∷ []) plain in
          formula-Compare names vars s place stated.Same a b
          ∙ rw (
            term_not_numeric names p objects agree scope t is.0 a so_t,
            plain_term_read scope vars same t plains.0 is.0 None tt a so_t,
            plain_term_read scope vars same u plains.1 is.1 None tt b so_u,
          ) refl
      plain_formula_read (Compare r x y) scope vars same plain is raw so = absurd plain

      plain_members_read : {n : _} (fs : Row_of-Formula n) (scope : List Typed) (vars : Variables) → SameScope scope vars → ArePlain fs → AreFormulas p objects scope fs
          → (raws : List RawFormula) → AreRawMembers written fs raws → all (map (formula names vars s) raws) ≡ parsed (items-the_row-Formula _ fs)
      plain_members_read end_of-Formula scope vars same plain is _ empty = refl
      plain_members_read (more_of-Formula f fs) scope vars same plain is _ (first x raws so are) =
          rw (plain_formula_read f scope vars same plain.0 is.0 x so, plain_members_read fs scope vars same plain.1 is.1 raws are) refl

pub plain_expressions_are_named : (names : Declarations) (p : Parts) (objects : List Typed) → Declares names p objects → (s : Setting)
    → (scope : List Typed) (vars : Variables) → SameScope scope vars
    → (x : Expr) → IsExpr p objects scope x → IsPlainExpr x → (raw : RawTerm) → IsRawExpr x raw → expr names vars s raw ≡ parsed x
plain_expressions_are_named names p objects agree s scope vars same x is plain raw so = plain_expr_read names p objects agree s scope vars same x plain is raw so

pub plain_conditions_are_named : (names : Declarations) (p : Parts) (objects : List Typed) → Declares names p objects → (s : Setting) (typed : Bool) → TypesWritten typed p
    → (scope : List Typed) (vars : Variables) → SameScope scope vars
    → (f : Formula) → IsFormula p objects scope f → IsPlain f → (raw : RawFormula) → IsRawFormula typed f raw → formula names vars s raw ≡ parsed f
plain_conditions_are_named names p objects agree s written all_written scope vars same f is plain raw so =
    plain_formula_read names p objects agree s written all_written f scope vars same plain is raw so
