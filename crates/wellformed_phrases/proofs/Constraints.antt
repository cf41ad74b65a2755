-- What is read as constraints and as a metric are constraints and a metric.
use Rattle.std.proofs.Common.{◌≡◌, List, [], ◌∷◌, ◌++◌, map, Option, Some, None, refl, sym, subst}
use Rattle.up_text.specs.Lists.{Every}
use Rattle.pddl_parse.specs.declared.raw.RawConstraint.{RawConstraint, Row_of-RawConstraint, end_of-RawConstraint, more_of-RawConstraint}
use Rattle.pddl_parse.specs.declared.raw.RawConstraint as form
use Rattle.pddl_parse.specs.declared.raw.RawFormula.{RawFormula}
use Rattle.pddl_parse.specs.declared.raw.RawMetric.{RawMetric}
use Rattle.up_tree.specs.declared.expr.Expr.{Expr}
use Rattle.up_tree.specs.declared.formula.Formula.{Formula}
use Rattle.up_tree.specs.declared.problem.Constraint.{Constraint}
use Rattle.up_tree.specs.declared.problem.Metric.{Metric}
use Rattle.up_tree.specs.declared.problem.Parts.{Parts}
use Rattle.up_tree.specs.declared.problem.Rule.{Rule}
use Rattle.up_tree.specs.declared.problem.Rule.TheVariants as rule
use Rattle.up_tree.specs.WellFormed.{AreVariables, IsConstraint, IsExpr, IsFormula, IsPlain, IsPlainExpr, IsType, OnMetric, formulas_of}
use Rattle.up_phrase.specs.declared.term.Setting.TheVariants as setting
use Rattle.up_phrase.specs.Conditions.{formula}
use Rattle.up_phrase.specs.Declarations.{Declarations}
use Rattle.up_phrase.specs.Exprs.{expr}
use Rattle.up_phrase.specs.Scopes.{Variables, entered_groups, typed}
use Rattle.up_phrase.specs.Walks.{Checked}
use Rattle.up_check.specs.Constraints.{for_each, ruled, pair, two, ruled_two, joined, constraints, each}
use Rattle.up_check.specs.Metrics.{metric, metric_of}
use Rattle.up_check.specs.Nodes.{forall}
use Rattle.wellformed_phrases.specs.Agreement.{IfParsed, Agree}
use Rattle.wellformed_phrases.specs.LawfulPhrases.{IsLawful, IsLawfulConstraint, AreLawfulConstraints, IsLawfulMetric}
use Rattle.wellformed_phrases.proofs.Parses.{parsed_over, parsed_two, parsed_after, parsed_and}
use Rattle.wellformed_phrases.proofs.Members.{every_append}
use Rattle.wellformed_phrases.proofs.Entering.{AreAdded, OfMany, added_both, groups_are, are_variables}
use Rattle.wellformed_phrases.proofs.Exprs.{expr_is}
use Rattle.wellformed_phrases.proofs.Conditions.{formula_is}
use Rattle.wellformed_phrases.proofs.Actions.{agree_empty, agree_alone}
use Rattle.wellformed_phrases.proofs.Plain.{expr_plain, formula_plain}

module _ (names : Declarations) (p : Parts) (agree : Agree names p p.objects) where
  -- variables that are in scope, from the outermost on
  record AreScope (vars : Variables) : Type 0 where
    are : AreAdded [] [] vars
    known : Every (λ e. IsType p e.1) vars

  abbrev IsRuled : Variables → Formula → Type 0
  IsRuled vars f = IsFormula p p.objects (map typed vars) f × IsPlain f

  abbrev AreConstraints : List Constraint → Type 0
  AreConstraints = Every (IsConstraint p)

  read_is : (vars : Variables) → AreScope vars → (raw : RawFormula) → IsLawful raw → IfParsed (formula names vars setting.Constraint raw) (IsRuled vars)
  read_is vars scope raw lawful =
      parsed_and (IsFormula p p.objects (map typed vars)) IsPlain (formula names vars setting.Constraint raw)
      (formula_is names p p.objects agree setting.Constraint raw lawful vars (map typed vars) (agree_alone p vars scope.known)) (formula_plain names raw vars)

  variables_are : (vars : Variables) → AreScope vars → AreVariables p [] (map typed vars)
  variables_are vars scope = are_variables p [] [] (agree_empty p) [] vars scope.are scope.known

  one_is : (vars : Variables) → AreScope vars → (made : Formula → Rule) → ((f : Formula) → formulas_of (made f) ≡ f ∷ []) → (raw : RawFormula) → IsLawful raw
      → IfParsed (ruled names vars made raw) AreConstraints
  one_is vars scope made of raw lawful =
      parsed_over (IsRuled vars) AreConstraints (λ (f : Formula). for_each vars (made f)) (formula names vars setting.Constraint raw)
      (λ f is. (record { vars = variables_are vars scope; formulas = subst (Every (IsRuled vars)) (sym (of f)) (is, tt) }, tt)) (read_is vars scope raw lawful)

  two_are : (vars : Variables) → AreScope vars → (made : Formula → Formula → Rule) → ((f g : Formula) → formulas_of (made f g) ≡ f ∷ g ∷ []) → (one other : RawFormula)
      → IsLawful one → IsLawful other → IfParsed (ruled_two names vars made one other) AreConstraints
  two_are vars scope made of one other lawful also =
      parsed_over (λ (both : Formula × Formula). IsRuled vars both.0 × IsRuled vars both.1) AreConstraints (λ (both : Formula × Formula). for_each vars (made both.0 both.1)) (two names vars one other)
      (λ both is. (record { vars = variables_are vars scope; formulas = subst (Every (IsRuled vars)) (sym (of both.0 both.1)) (is.0, (is.1, tt)) }, tt))
      (parsed_two (IsRuled vars) (IsRuled vars) (λ (both : Formula × Formula). IsRuled vars both.0 × IsRuled vars both.1) pair
      (formula names vars setting.Constraint one) (formula names vars setting.Constraint other) (λ f g is so. (is, so)) (read_is vars scope one lawful) (read_is vars scope other also))

  joined_are : (vs : List (Checked (List Constraint))) → Every (λ v. IfParsed v AreConstraints) vs → IfParsed (joined vs) AreConstraints
  joined_are [] are = tt
  joined_are (v ∷ vs) are =
      parsed_two AreConstraints AreConstraints AreConstraints (λ xs ys. xs ++ ys) v (joined vs) (λ xs ys one two. every_append (IsConstraint p) xs ys one two) are.0 (joined_are vs are.1)

  inside : (vars inner : Variables) → AreScope vars → OfMany [] names p p.objects agree vars inner → AreScope inner
  inside vars inner scope (added, is, are, known) = record {
    are = subst (AreAdded [] []) (sym is) (added_both [] [] vars added scope.are are);
    known = subst (Every (λ e. IsType p e.1)) (sym is) (every_append (λ e. IsType p e.1) vars added scope.known known);
  }

  mutual
    unfolding constraints each IsLawfulConstraint AreLawfulConstraints

    constraints_are : (raw : RawConstraint) → IsLawfulConstraint raw → (vars : Variables) → AreScope vars → IfParsed (constraints names vars raw) AreConstraints
    constraints_are (form.And' n members) lawful vars scope = joined_are (each names vars members) (each_are members lawful vars scope)
    constraints_are (forall groups body) lawful vars scope =
        parsed_after (OfMany [] names p p.objects agree vars) AreConstraints (entered_groups names [] groups vars) (λ (inner : Variables). constraints names inner body)
        (groups_are [] names p p.objects agree groups vars lawful.0) (λ inner many. constraints_are body lawful.1 inner (inside vars inner scope many))
    constraints_are (form.Always f) lawful vars scope = one_is vars scope rule.Always (λ g. refl) f lawful
    constraints_are (form.Sometime f) lawful vars scope = one_is vars scope rule.Sometime (λ g. refl) f lawful
    constraints_are (form.AtMostOnce f) lawful vars scope = one_is vars scope rule.AtMostOnce (λ g. refl) f lawful
    constraints_are (form.SometimeAfter f g) lawful vars scope = two_are vars scope rule.SometimeAfter (λ a b. refl) f g lawful.0 lawful.1
    constraints_are (form.SometimeBefore f g) lawful vars scope = two_are vars scope rule.SometimeBefore (λ a b. refl) f g lawful.0 lawful.1

    each_are : {n : _} (members : Row_of-RawConstraint n) → AreLawfulConstraints members → (vars : Variables) → AreScope vars
        → Every (λ v. IfParsed v AreConstraints) (each names vars members)
    each_are end_of-RawConstraint lawful vars scope = tt
    each_are (more_of-RawConstraint member members) lawful vars scope = (constraints_are member lawful.0 vars scope, each_are members lawful.1 vars scope)

  pub all_are : (raw : RawConstraint) → IsLawfulConstraint raw → IfParsed (constraints names [] raw) AreConstraints
  all_are raw lawful = constraints_are raw lawful [] (record { are = tt; known = tt })

  pub metric_is : (raw : Option RawMetric) → IsLawfulMetric raw → IfParsed (metric_of names raw) (OnMetric p)
  metric_is None lawful = tt
  metric_is (Some raw) lawful =
      parsed_over (λ (m : Metric). IsExpr p p.objects [] m.value × IsPlainExpr m.value) (OnMetric p) (λ (it : Metric). Some it) (metric names raw) (λ m is. is)
      (parsed_over (λ (x : Expr). IsExpr p p.objects [] x × IsPlainExpr x) (λ (m : Metric). IsExpr p p.objects [] m.value × IsPlainExpr m.value)
      (λ (value : Expr). record { minimize = raw.minimize; value = value }) (expr names [] setting.Metric raw.value) (λ x is. is)
      (parsed_and (IsExpr p p.objects []) IsPlainExpr (expr names [] setting.Metric raw.value)
      (expr_is names p p.objects agree [] [] (agree_empty p) setting.Metric raw.value lawful) (expr_plain names setting.Metric tt [] raw.value)))

pub constraints_are_well_formed : (names : Declarations) (p : Parts) → Agree names p p.objects
    → (raw : RawConstraint) → IsLawfulConstraint raw → IfParsed (constraints names [] raw) (Every (IsConstraint p))
constraints_are_well_formed names p agree raw lawful = all_are names p agree raw lawful

pub metrics_are_well_formed : (names : Declarations) (p : Parts) → Agree names p p.objects
    → (raw : Option RawMetric) → IsLawfulMetric raw → IfParsed (metric_of names raw) (OnMetric p)
metrics_are_well_formed names p agree raw lawful = metric_is names p agree raw lawful
