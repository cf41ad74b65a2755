-- The abstract syntax of a condition is read as the condition.
use Rattle.std.proofs.Common.{◌≡◌, Bool, true, false, List, ◌++◌, map, Some, None, option_map, refl, ap, sym, ◌∙◌}
use Rattle.up_text.specs.declared.name.Name.{Name}
use Rattle.up_text.specs.declared.place.Place.{Place}
use Rattle.up_tree.specs.declared.term.Typed.{Typed}
use Rattle.up_tree.specs.declared.term.Term.{Term}
use Rattle.up_tree.specs.declared.formula.Relation.{Relation}
use Rattle.up_tree.specs.declared.formula.Relation.TheVariants as relation
use Rattle.up_tree.specs.declared.formula.Formula.{Formula, And, And', Or, Or', Not, Imply, Exists, Forall, Atom, Equal, Compare, Row_of-Formula, end_of-Formula, more_of-Formula, items-the_row-Formula}
use Rattle.up_tree.specs.declared.formula.Formula.TheBlock.{shown-the_row-Formula-0, items_shown-the_row-Formula-0}
use Rattle.up_tree.specs.declared.formula.Formula.TheViews.{roll-Formula, roll-out-Formula, outs-And', rolls-And, outs-Or', rolls-Or}
use denote.Hole.Carrier
use Rattle.up_tree.specs.declared.problem.Predicate.{Predicate}
use Rattle.up_tree.specs.declared.problem.Parts.{Parts}
use Rattle.up_tree.specs.Nodes.{not, imply, exists, forall, built}
use Rattle.up_tree.specs.Objects.{predicate_named}
use Rattle.up_tree.specs.WellFormed as tree
use Rattle.up_tree.specs.WellFormed.{AreFormulas, AreVariables, TermsFit, IsFormula}
use Rattle.pddl_lex.specs.Parses.{parsed, over, all}
use Rattle.pddl_parse.specs.declared.raw.Ident.{Ident}
use Rattle.pddl_parse.specs.declared.raw.RawGroup.{RawGroup}
use Rattle.pddl_parse.specs.declared.raw.Relation.TheVariants as stated
use Rattle.pddl_parse.specs.declared.raw.RawTerm.{RawTerm}
use Rattle.pddl_parse.specs.declared.raw.RawFormula.{RawFormula}
use Rattle.pddl_parse.specs.Forms.{ident_at}
use Rattle.up_phrase.specs.declared.term.Setting.{Setting}
use Rattle.up_phrase.specs.declared.term.Setting.TheVariants.{Plain}
use Rattle.up_phrase.specs.Conditions.{predicate, atom_args, is_numeric, is_equality, relation_of, quantifier, formula}
use Rattle.up_phrase.specs.Declarations.{Declarations}
use Rattle.up_phrase.specs.Lookups.{predicate_of}
use Rattle.up_phrase.specs.Scopes.{Variables}
use Rattle.up_phrase.specs.Terms.{term}
use Rattle.up_phrase.proofs.FormulaNodes.{formula-And, formula-Or, formula-Not, formula-Imply, formula-Exists, formula-Forall, formula-Atom, formula-Compare}
use Rattle.roundtrip_tokens.proofs.Named.{found_and}
use Rattle.roundtrip_shapes.specs.Raw.{at, empty, first, AreRawGroups, AreRawTerms, an_and, an_or, a_not, an_imply, an_exists, a_forall, an_atom, a_compare, raw_relation, IsRawFormula, AreRawMembers}
use Rattle.roundtrip_names.specs.Declared.{entry, Declares, SameScope, TypesWritten}
use Rattle.roundtrip_names.proofs.Found.{predicate_found}
use Rattle.roundtrip_names.proofs.Terms.{applied_read, term_read, terms_read}
use Rattle.roundtrip_names.proofs.Exprs.{term_not_numeric, expr_numeric, expr_read}
use Rattle.roundtrip_names.proofs.Entered.{scope_grown, bound_new, variables_entered}

pub and_rebuilt : (n : _) (row : Row_of-Formula _) → And' n row ≡ And (items-the_row-Formula _ row)
unfolding roll-Formula Carrier.roll
and_rebuilt n row = sym (roll-out-Formula (And' n row)) ∙ ap roll-Formula (outs-And' n row)
    ∙ sym (rolls-And (shown-the_row-Formula-0 n row)) ∙ ap And (items_shown-the_row-Formula-0 n row)

pub or_rebuilt : (n : _) (row : Row_of-Formula _) → Or' n row ≡ Or (items-the_row-Formula _ row)
unfolding roll-Formula Carrier.roll
or_rebuilt n row = sym (roll-out-Formula (Or' n row)) ∙ ap roll-Formula (outs-Or' n row)
    ∙ sym (rolls-Or (shown-the_row-Formula-0 n row)) ∙ ap Or (items_shown-the_row-Formula-0 n row)

pub not_built : (f : Formula) → Not f ≡ not f
unfolding built
not_built f = refl

pub imply_built : (f g : Formula) → Imply f g ≡ imply f g
unfolding built
imply_built f g = refl

pub exists_built : (vars : List Typed) (f : Formula) → Exists vars f ≡ exists vars f
unfolding built
exists_built vars f = refl

pub forall_built : (vars : List Typed) (f : Formula) → Forall vars f ≡ forall vars f
unfolding built
forall_built vars f = refl

same_relation : (r : Relation) → relation_of (raw_relation r) ≡ r
same_relation relation.Less = refl
same_relation relation.LessEqual = refl
same_relation relation.Same = refl
same_relation relation.GreaterEqual = refl
same_relation relation.Greater = refl

-- a number on the left makes no equality of objects
no_equality : (names : Declarations) (r : Relation) (left : RawTerm) → is_numeric names left ≡ true → is_equality names (raw_relation r) left ≡ false
no_equality names relation.Less left is = refl
no_equality names relation.LessEqual left is = refl
no_equality names relation.Same left is = rw is refl
no_equality names relation.GreaterEqual left is = refl
no_equality names relation.Greater left is = refl

module _ (names : Declarations) (p : Parts) (objects : List Typed) (agree : Declares names p objects) (written : Bool) (all_written : TypesWritten written p) where
  -- what is declared of a predicate of the problem
  pub predicate_read : (it : Ident) (d : Predicate) → predicate_named p it.name ≡ Some d → predicate it (predicate_of names it.name) ≡ parsed d.args
  predicate_read it d here = ap (predicate it) (predicate_found names p objects agree it.name ∙ ap (option_map (λ (d : Predicate). d.args)) here)

  pub atom_read : (scope : List Typed) (vars : Variables) → SameScope scope vars → (name : Name) (ts : List Term) → tree.IsAtom p objects scope name ts
      → (place there : Place) (args : List RawTerm) → AreRawTerms ts args → atom_args names vars Plain place (ident_at name there) args ≡ parsed ts
  atom_read scope vars same name ts is place there args are =
      let Fits : Predicate → Type 0 = λ d. TermsFit p objects scope ts d.args in
      let (d, here, known) = found_and Fits (predicate_named p name) is in
      applied_read (term names vars Plain) place name (predicate (ident_at name there) (predicate_of names name)) d.args args ts
      (predicate_read (ident_at name there) d here) (terms_read names p objects agree scope vars same ts d.args known args are)

  pub quantifier_read : (s : Setting) (scope : List Typed) (vars : Variables) → SameScope scope vars → (new : List Typed) (f : Formula) → AreVariables p scope new
      → (groups : List RawGroup) (raw : RawFormula) → AreRawGroups written new groups → formula names (vars ++ map entry new) s raw ≡ parsed f
      → quantifier names vars s groups raw ≡ parsed (new, f)
  quantifier_read s scope vars same new f are groups raw so inner =
      rw (variables_entered names p objects agree written all_written scope new are groups so vars same, inner, bound_new vars new) refl

  mutual
    unfolding tree.IsFormula AreFormulas IsRawFormula AreRawMembers

    pub formula_read : (f : Formula) (scope : List Typed) (vars : Variables) → SameScope scope vars → tree.IsFormula p objects scope f
        → (raw : RawFormula) → IsRawFormula written f raw → formula names vars Plain raw ≡ parsed f
    formula_read (And' n fs) scope vars same is _ (an_and raws are) =
        formula-And names vars Plain raws ∙ ap (over And) (members_read fs scope vars same is raws are) ∙ ap parsed (sym (and_rebuilt n fs))
    formula_read (Or' n fs) scope vars same is _ (an_or raws are) =
        formula-Or names vars Plain raws ∙ ap (over Or) (members_read fs scope vars same is raws are) ∙ ap parsed (sym (or_rebuilt n fs))
    formula_read (not f) scope vars same is _ (a_not x so) =
        formula-Not names vars Plain x ∙ ap (over Not) (formula_read f scope vars same is x so) ∙ ap parsed (not_built f)
    formula_read (imply f g) scope vars same is _ (an_imply x y so_f so_g) =
        formula-Imply names vars Plain x y ∙ rw (formula_read f scope vars same is.0 x so_f, formula_read g scope vars same is.1 y so_g) (ap parsed (imply_built f g))
    formula_read (exists new f) scope vars same is _ (an_exists groups x so_vars so) =
        formula-Exists names vars Plain groups x
        ∙ ap (over (λ (q : List Typed × Formula). Exists q.0 q.1)) (quantifier_read Plain scope vars same new f is.0 groups x so_vars
        (formula_read f (new ++ scope) (vars ++ map entry new) (scope_grown scope new vars same is.0.fresh) is.1 x so))
        ∙ ap parsed (exists_built new f)
    formula_read (forall new f) scope vars same is _ (a_forall groups x so_vars so) =
        formula-Forall names vars Plain groups x
        ∙ ap (over (λ (q : List Typed × Formula). Forall q.0 q.1)) (quantifier_read Plain scope vars same new f is.0 groups x so_vars
        (formula_read f (new ++ scope) (vars ++ map entry new) (scope_grown scope new vars same is.0.fresh) is.1 x so))
        ∙ ap parsed (forall_built new f)
    formula_read (Atom name ts) scope vars same is _ (an_atom place _ args (at there) are) =
        formula-Atom names vars Plain place (ident_at name there) args ∙ ap (over (λ us. Atom name us)) (atom_read scope vars same name ts is place there args are)
    formula_read (Equal t u) scope vars same is _ (a_compare place a b so_t so_u) =
        formula-Compare names vars Plain place stated.Same a b
        ∙ rw (
          term_not_numeric names p objects agree scope t is.0 a so_t,
          term_read names p objects agree scope vars same t is.0 None tt a so_t,
          term_read names p objects agree scope vars same u is.1 None tt b so_u,
        ) refl
    formula_read (Compare r x y) scope vars same is _ (a_compare place a b so_x so_y) =
        formula-Compare names vars Plain place (raw_relation r) a b
        ∙ rw (
          no_equality names r a (expr_numeric names p objects agree scope x is.0 a so_x),
          expr_read names p objects agree scope vars same x is.0 a so_x,
          expr_read names p objects agree scope vars same y is.1 b so_y,
          same_relation r,
        ) refl

    members_read : {n : _} (fs : Row_of-Formula n) (scope : List Typed) (vars : Variables) → SameScope scope vars → AreFormulas p objects scope fs
        → (raws : List RawFormula) → AreRawMembers written fs raws → all (map (formula names vars Plain) raws) ≡ parsed (items-the_row-Formula _ fs)
    members_read end_of-Formula scope vars same is _ empty = refl
    members_read (more_of-Formula f fs) scope vars same is _ (first x raws so are) =
        rw (formula_read f scope vars same is.0 x so, members_read fs scope vars same is.1 raws are) refl

pub conditions_are_named : (names : Declarations) (p : Parts) (objects : List Typed) → Declares names p objects → (typed : Bool) → TypesWritten typed p
    → (scope : List Typed) (vars : Variables) → SameScope scope vars
    → (f : Formula) → IsFormula p objects scope f → (raw : RawFormula) → IsRawFormula typed f raw → formula names vars Plain raw ≡ parsed f
conditions_are_named names p objects agree written all_written scope vars same f is raw so = formula_read names p objects agree written all_written f scope vars same is raw so
