-- What is read as a condition is one.
use Rattle.std.proofs.Common.{◌≡◌, Bool, true, false, if◌then◌else◌, List, [], ◌∷◌, ◌++◌, map, Option, Some, None, refl, ap, sym, ◌∙◌, subst}
use Rattle.up_text.specs.declared.name.Name.{Name}
use Rattle.up_text.specs.declared.place.Place.{Place}
use Rattle.up_text.specs.Lists.{Every}
use Rattle.pddl_lex.specs.Parses.{all, over}
use Rattle.pddl_parse.specs.declared.raw.Ident.{Ident}
use Rattle.pddl_parse.specs.declared.raw.Relation as raw_relation
use Rattle.pddl_parse.specs.declared.raw.RawTerm.{RawTerm}
use Rattle.pddl_parse.specs.declared.raw.RawGroup.{RawGroup}
use Rattle.pddl_parse.specs.declared.raw.RawFormula.{RawFormula, Row_of-RawFormula, end_of-RawFormula, more_of-RawFormula}
use Rattle.pddl_parse.specs.declared.raw.RawFormula as form
use Rattle.up_tree.specs.declared.formula.Formula.{Formula, And, Or, Not, Imply, Exists, Forall, Atom, Equal, Compare, Row_of-Formula, end_of-Formula, more_of-Formula, items-the_row-Formula, items_hidden-the_row-Formula-0}
use Rattle.up_tree.specs.declared.formula.Formula.TheBlock.{hidden-the_row-Formula-0}
use Rattle.up_tree.specs.declared.term.Term.{Term}
use Rattle.up_tree.specs.declared.term.Typed.{Typed}
use Rattle.up_tree.specs.declared.problem.Parts.{Parts}
use Rattle.up_tree.specs.Nodes.{built}
use Rattle.up_tree.specs.Objects.{predicate_named}
use Rattle.up_tree.specs.WellFormed.{IsTerm, IsExpr, IsAtom, IsFormula, AreFormulas, AreVariables, TermsFit}
use Rattle.up_phrase.specs.declared.term.Setting.{Setting}
use Rattle.up_phrase.specs.declared.term.Setting.TheVariants as setting
use Rattle.up_phrase.specs.Conditions.{predicate, atom_args, is_equality, relation_of, equality, comparison, compared, related, bound, quantified, formula, formulas}
use Rattle.up_phrase.specs.Declarations.{Declarations}
use Rattle.up_phrase.specs.Exprs.{expr}
use Rattle.up_phrase.specs.Lookups.{predicate_of}
use Rattle.up_phrase.specs.Nodes.{not, imply, exists, forall}
use Rattle.up_phrase.specs.Scopes.{Variables, entered_groups, typed}
use Rattle.up_phrase.specs.Terms.{term}
use Rattle.up_phrase.specs.Walks.{Checked}
use Rattle.up_check.specs.Lists as lists
use Rattle.wellformed_phrases.specs.Agreement.{IfParsed, Agree, AgreeInScope}
use Rattle.wellformed_phrases.specs.LawfulPhrases.{HasLiterals, HaveNames, IsLawful, AreLawful}
use Rattle.wellformed_phrases.proofs.Parses.{parsed_as, parsed_over, parsed_two, parsed_after, parsed_all}
use Rattle.wellformed_phrases.proofs.Tables.{predicate_is, at_some}
use Rattle.wellformed_phrases.proofs.Terms.{Reads, applied_are, term_is}
use Rattle.wellformed_phrases.proofs.Exprs.{expr_is}
use Rattle.wellformed_phrases.proofs.Entering.{OfMany, groups_are, are_variables, agree_inside, bound_is}

module _ (names : Declarations) (p : Parts) (objects : List Typed) (agree : Agree names p objects) (s : Setting) where
  -- ---- atoms and comparisons

  module _ (vars : Variables) (scope : List Typed) (in_scope : AgreeInScope p vars scope) where
    pub each_reads : (args : List RawTerm) → Every (Reads names p objects agree vars scope in_scope s) (map (term names vars s) args)
    each_reads [] = tt
    each_reads (arg ∷ args) = (term_is names p objects agree vars scope in_scope s arg, each_reads args)

    predicate_read : (it : Ident) (found : Option (List Name)) → predicate_of names it.name ≡ found → IfParsed (predicate it found) (λ types. predicate_of names it.name ≡ Some types)
    predicate_read it None is = tt
    predicate_read it (Some args) is = is

    pub atom_is : (place : Place) (it : Ident) (args : List RawTerm) → IfParsed (atom_args names vars s place it args) (IsAtom p objects scope it.name)
    atom_is place it args =
        parsed_as (λ ts. (types : List Name) × (predicate_of names it.name ≡ Some types) × TermsFit p objects scope ts types) (IsAtom p objects scope it.name)
        (atom_args names vars s place it args)
        (λ ts (types, is, fit). at_some (predicate_named p it.name) (lists.predicate (it.name, types)) (λ d. TermsFit p objects scope ts d.args)
        (predicate_is names p objects agree it.name types is) fit)
        (applied_are names p objects agree vars scope in_scope s (λ types. predicate_of names it.name ≡ Some types) place it.name
        (predicate it (predicate_of names it.name)) (map (term names vars s) args) (predicate_read it (predicate_of names it.name) refl) (each_reads args))

    equality_is : (left right : RawTerm) → IfParsed (equality names vars s left right) (IsFormula p objects scope)
    unfolding IsFormula
    equality_is left right =
        parsed_two (IsTerm p objects scope) (IsTerm p objects scope) (IsFormula p objects scope) (λ t u. Equal t u) (term names vars s left None) (term names vars s right None)
        (λ t u is so. (is, so)) (term_is names p objects agree vars scope in_scope s left None) (term_is names p objects agree vars scope in_scope s right None)

    comparison_is : (at_setting : Setting) (r : raw_relation.Relation) (left right : RawTerm) → HasLiterals left → HasLiterals right
        → IfParsed (comparison names vars at_setting r left right) (IsFormula p objects scope)
    unfolding IsFormula
    comparison_is at_setting r left right has also =
        parsed_two (IsExpr p objects scope) (IsExpr p objects scope) (IsFormula p objects scope) (λ a b. Compare (relation_of r) a b)
        (expr names vars at_setting left) (expr names vars at_setting right) (λ a b is so. (is, so))
        (expr_is names p objects agree vars scope in_scope at_setting left has) (expr_is names p objects agree vars scope in_scope at_setting right also)

    compared_is : (at_setting : Setting) (place : Place) (r : raw_relation.Relation) (left right : RawTerm) → HasLiterals left → HasLiterals right
        → IfParsed (compared names vars at_setting place r left right) (IsFormula p objects scope)
    compared_is setting.Plain place r left right has also = comparison_is setting.Plain r left right has also
    compared_is setting.Constraint place r left right has also = tt
    compared_is setting.Metric place r left right has also = comparison_is setting.Metric r left right has also

    related_is : (place : Place) (r : raw_relation.Relation) (left right : RawTerm) → HasLiterals left → HasLiterals right
        → IfParsed (related names vars s place r left right) (IsFormula p objects scope)
    related_is place r left right has also = by (is_equality names r left)
      where
        by : (b : Bool) → IfParsed (if b then equality names vars s left right else compared names vars s place r left right) (IsFormula p objects scope)
        by true = equality_is left right
        by false = compared_is s place r left right has also

    -- ---- quantifiers

    abbrev IsQuantified : List Typed × Formula → Type 0
    IsQuantified q = AreVariables p scope q.0 × IsFormula p objects (q.0 ++ scope) q.1

    inside_is : (body : Variables → Checked Formula)
        → ((inner : Variables) (inner_scope : List Typed) → AgreeInScope p inner inner_scope → IfParsed (body inner) (IsFormula p objects inner_scope))
        → (inner : Variables) → OfMany [] names p objects agree vars inner → IfParsed (over (λ (f : Formula). (bound vars inner, f)) (body inner)) IsQuantified
    inside_is body each inner (added, is, are, known) =
        let are_there = are_variables p vars scope in_scope [] added are known in
        let within : AgreeInScope p inner (map typed added ++ scope) =
        subst (λ vs. AgreeInScope p vs (map typed added ++ scope)) (sym is) (agree_inside p vars scope in_scope [] added are known) in
        let same : bound vars inner ≡ map typed added = ap (bound vars) is ∙ bound_is vars added in
        parsed_over (IsFormula p objects (map typed added ++ scope)) IsQuantified (λ (f : Formula). (bound vars inner, f)) (body inner)
        (λ f so. (subst (AreVariables p scope) (sym same) are_there, subst (λ vs. IsFormula p objects (vs ++ scope) f) (sym same) so))
        (each inner (map typed added ++ scope) within)

    quantified_is : (groups : List RawGroup) (body : Variables → Checked Formula) → HaveNames groups
        → ((inner : Variables) (inner_scope : List Typed) → AgreeInScope p inner inner_scope → IfParsed (body inner) (IsFormula p objects inner_scope))
        → IfParsed (quantified names vars groups body) IsQuantified
    quantified_is groups body named each =
        parsed_after (OfMany [] names p objects agree vars) IsQuantified (entered_groups names [] groups vars) (λ (inner : Variables). over (λ (f : Formula). (bound vars inner, f)) (body inner))
        (groups_are [] names p objects agree groups vars named) (inside_is body each)

  -- ---- members

  row_is : (scope : List Typed) {n : _} (fs : Row_of-Formula n) → Every (IsFormula p objects scope) (items-the_row-Formula _ fs) → AreFormulas p objects scope fs
  unfolding AreFormulas
  row_is scope end_of-Formula are = tt
  row_is scope (more_of-Formula f fs) are = (are.0, row_is scope fs are.1)

  members_are : (scope : List Typed) (fs : List Formula) → Every (IsFormula p objects scope) fs → AreFormulas p objects scope (hidden-the_row-Formula-0 fs)
  members_are scope fs are =
      row_is scope (hidden-the_row-Formula-0 fs) (subst (Every (IsFormula p objects scope)) (sym (items_hidden-the_row-Formula-0 fs)) are)

  pub and_is : (scope : List Typed) (fs : List Formula) → Every (IsFormula p objects scope) fs → IsFormula p objects scope (And fs)
  unfolding IsFormula
  and_is scope fs are = members_are scope fs are

  or_is : (scope : List Typed) (fs : List Formula) → Every (IsFormula p objects scope) fs → IsFormula p objects scope (Or fs)
  unfolding IsFormula
  or_is scope fs are = members_are scope fs are

  not_is : (scope : List Typed) (f : Formula) → IsFormula p objects scope f → IsFormula p objects scope (Not f)
  unfolding IsFormula built
  not_is scope f is = is

  imply_is : (scope : List Typed) (f g : Formula) → IsFormula p objects scope f → IsFormula p objects scope g → IsFormula p objects scope (Imply f g)
  unfolding IsFormula built
  imply_is scope f g is so = (is, so)

  exists_is : (scope : List Typed) (q : List Typed × Formula) → AreVariables p scope q.0 × IsFormula p objects (q.0 ++ scope) q.1 → IsFormula p objects scope (Exists q.0 q.1)
  unfolding IsFormula built
  exists_is scope q is = is

  forall_is : (scope : List Typed) (q : List Typed × Formula) → AreVariables p scope q.0 × IsFormula p objects (q.0 ++ scope) q.1 → IsFormula p objects scope (Forall q.0 q.1)
  unfolding IsFormula built
  forall_is scope q is = is

  atom_formula : (scope : List Typed) (name : Name) (ts : List Term) → IsAtom p objects scope name ts → IsFormula p objects scope (Atom name ts)
  unfolding IsFormula
  atom_formula scope name ts is = is

  mutual
    unfolding formula formulas IsLawful AreLawful

    pub formula_is : (raw : RawFormula) → IsLawful raw → (vars : Variables) (scope : List Typed) → AgreeInScope p vars scope
        → IfParsed (formula names vars s raw) (IsFormula p objects scope)
    formula_is (form.And' n members) lawful vars scope in_scope =
        parsed_over (Every (IsFormula p objects scope)) (IsFormula p objects scope) And (all (formulas names vars s members)) (and_is scope)
        (parsed_all (IsFormula p objects scope) (formulas names vars s members) (formulas_are members lawful vars scope in_scope))
    formula_is (form.Or' n members) lawful vars scope in_scope =
        parsed_over (Every (IsFormula p objects scope)) (IsFormula p objects scope) Or (all (formulas names vars s members)) (or_is scope)
        (parsed_all (IsFormula p objects scope) (formulas names vars s members) (formulas_are members lawful vars scope in_scope))
    formula_is (not f) lawful vars scope in_scope =
        parsed_over (IsFormula p objects scope) (IsFormula p objects scope) Not (formula names vars s f) (not_is scope) (formula_is f lawful vars scope in_scope)
    formula_is (imply f g) lawful vars scope in_scope =
        parsed_two (IsFormula p objects scope) (IsFormula p objects scope) (IsFormula p objects scope) Imply (formula names vars s f) (formula names vars s g) (imply_is scope)
        (formula_is f lawful.0 vars scope in_scope) (formula_is g lawful.1 vars scope in_scope)
    formula_is (exists groups f) lawful vars scope in_scope =
        parsed_over (λ (q : List Typed × Formula). AreVariables p scope q.0 × IsFormula p objects (q.0 ++ scope) q.1) (IsFormula p objects scope)
        (λ (q : List Typed × Formula). Exists q.0 q.1) (quantified names vars groups (λ inner. formula names inner s f)) (exists_is scope)
        (quantified_is vars scope in_scope groups (λ inner. formula names inner s f) lawful.0 (λ inner inner_scope within. formula_is f lawful.1 inner inner_scope within))
    formula_is (forall groups f) lawful vars scope in_scope =
        parsed_over (λ (q : List Typed × Formula). AreVariables p scope q.0 × IsFormula p objects (q.0 ++ scope) q.1) (IsFormula p objects scope)
        (λ (q : List Typed × Formula). Forall q.0 q.1) (quantified names vars groups (λ inner. formula names inner s f)) (forall_is scope)
        (quantified_is vars scope in_scope groups (λ inner. formula names inner s f) lawful.0 (λ inner inner_scope within. formula_is f lawful.1 inner inner_scope within))
    formula_is (form.Atom place it args) lawful vars scope in_scope =
        parsed_over (IsAtom p objects scope it.name) (IsFormula p objects scope) (λ ts. Atom it.name ts) (atom_args names vars s place it args) (atom_formula scope it.name)
        (atom_is vars scope in_scope place it args)
    formula_is (form.Compare place r left right) lawful vars scope in_scope = related_is vars scope in_scope place r left right lawful.0 lawful.1

    formulas_are : {n : _} (members : Row_of-RawFormula n) → AreLawful members → (vars : Variables) (scope : List Typed) → AgreeInScope p vars scope
        → Every (λ v. IfParsed v (IsFormula p objects scope)) (formulas names vars s members)
    formulas_are end_of-RawFormula lawful vars scope in_scope = tt
    formulas_are (more_of-RawFormula member members) lawful vars scope in_scope =
        (formula_is member lawful.0 vars scope in_scope, formulas_are members lawful.1 vars scope in_scope)

pub conditions_are_well_formed : (names : Declarations) (p : Parts) (objects : List Typed) → Agree names p objects
    → (vars : Variables) (scope : List Typed) → AgreeInScope p vars scope
    → (s : Setting) (raw : RawFormula) → IsLawful raw → IfParsed (formula names vars s raw) (IsFormula p objects scope)
conditions_are_well_formed names p objects agree vars scope in_scope s raw lawful = formula_is names p objects agree s raw lawful vars scope in_scope
