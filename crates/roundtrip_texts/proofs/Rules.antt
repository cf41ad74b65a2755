-- The constraints and the metric of a written problem are read as they are.
use Rattle.std.proofs.Common.{◌≡◌, Bool, List, [], ◌∷◌, map, Option, refl, ap, ◌∙◌}
use Rattle.up_text.specs.Lists.{Every}
use Rattle.up_tree.specs.declared.term.Typed.{Typed}
use Rattle.up_tree.specs.declared.formula.Formula.{Formula}
use Rattle.up_tree.specs.declared.problem.Constraint.{Constraint}
use Rattle.up_tree.specs.declared.problem.Metric.{Metric}
use Rattle.up_tree.specs.declared.problem.Parts.{Parts}
use Rattle.up_tree.specs.declared.problem.Rule.{Rule}
use Rattle.up_tree.specs.WellFormed.{AreVariables, IsFormula, IsPlain, IsConstraint, OnMetric, formulas_of}
use Rattle.pddl_lex.specs.Parses.{parsed}
use Rattle.pddl_parse.specs.declared.raw.RawConstraint.{RawConstraint}
use Rattle.pddl_parse.specs.declared.raw.RawFormula.{RawFormula}
use Rattle.pddl_parse.specs.declared.raw.RawMetric.{RawMetric}
use Rattle.up_phrase.specs.declared.term.Setting.TheVariants as setting
use Rattle.up_phrase.specs.Conditions.{formula}
use Rattle.up_phrase.specs.Declarations.{Declarations}
use Rattle.up_phrase.specs.Scopes.{Variables}
use Rattle.up_check.specs.Constraints.{constraints, for_each, joined}
use Rattle.up_check.specs.Metrics.{metric_of}
use Rattle.up_check.proofs.Flattened.{constraints-And, constraints-Forall, constraints-Always, constraints-Sometime, constraints-AtMostOnce, constraints-SometimeAfter, constraints-SometimeBefore}
use Rattle.roundtrip_shapes.specs.Raw.{empty, first, IsEmpty, IsRawFormula}
use Rattle.roundtrip_shapes.specs.RawFiles.{AreEach, IsRawRule, always, sometime, at_most_once, sometime_after, sometime_before, for_all, all_of, IsRawForEach, IsRawConstraint, AreRawConstraints, IsRawMetric, no_metric, a_metric}
use Rattle.roundtrip_names.specs.Declared.{entry, Declares, SameScope, TypesWritten}
use Rattle.roundtrip_names.proofs.Entered.{map_back, variables_entered}
use Rattle.roundtrip_names.proofs.Found.{entry_found}
use Rattle.roundtrip_names.proofs.Settings.{plain_conditions_are_named, plain_expressions_are_named}

module _ (names : Declarations) (p : Parts) (agree : Declares names p p.objects) (written : Bool) (all_written : TypesWritten written p) where
  -- a condition that may stand in a constraint
  abbrev Fits : List Typed → Formula → Type 0
  Fits scope f = IsFormula p p.objects scope f × IsPlain f

  condition_read : (scope : List Typed) (vars : Variables) → SameScope scope vars → (f : Formula) → Fits scope f → (raw : RawFormula) → IsRawFormula written f raw
      → formula names vars setting.Constraint raw ≡ parsed f
  condition_read scope vars same f is raw so =
      plain_conditions_are_named names p p.objects agree setting.Constraint written all_written scope vars same f is.0 is.1 raw so

  rule_read : (scope : List Typed) (vars : Variables) → SameScope scope vars → (r : Rule) → Every (Fits scope) (formulas_of r)
      → (raw : RawConstraint) → IsRawRule written r raw → constraints names vars raw ≡ parsed (for_each vars r)
  rule_read scope vars same _ is _ (always f raw so) =
      constraints-Always names vars raw ∙ rw (condition_read scope vars same f is.0 raw so) refl
  rule_read scope vars same _ is _ (sometime f raw so) =
      constraints-Sometime names vars raw ∙ rw (condition_read scope vars same f is.0 raw so) refl
  rule_read scope vars same _ is _ (at_most_once f raw so) =
      constraints-AtMostOnce names vars raw ∙ rw (condition_read scope vars same f is.0 raw so) refl
  rule_read scope vars same _ is _ (sometime_after f g one two so_f so_g) =
      constraints-SometimeAfter names vars one two ∙ rw (condition_read scope vars same f is.0 one so_f, condition_read scope vars same g is.1.0 two so_g) refl
  rule_read scope vars same _ is _ (sometime_before f g one two so_f so_g) =
      constraints-SometimeBefore names vars one two ∙ rw (condition_read scope vars same f is.0 one so_f, condition_read scope vars same g is.1.0 two so_g) refl

  abbrev constraint_of : List Typed → Rule → Constraint
  constraint_of vars r = record { vars = vars; rule = r }

  -- a rule inside the `forall` of its variables
  for_each_read : (new : List Typed) → AreVariables p [] new → (r : Rule) → Every (Fits new) (formulas_of r)
      → (raw : RawConstraint) → IsRawForEach written new (IsRawRule written r) raw → constraints names [] raw ≡ parsed (constraint_of new r ∷ [])
  for_each_read [] are r is raw so = rule_read [] [] (λ v. refl) r is raw so
  for_each_read (v ∷ new) are r is _ (for_all groups c so_vars so) =
      constraints-Forall names [] groups c
      ∙ rw (variables_entered names p p.objects agree written all_written [] (v ∷ new) are groups so_vars [] (λ w. refl))
      (rule_read (v ∷ new) (map entry (v ∷ new)) (λ w. entry_found (v ∷ new) w) r is c so
      ∙ ap (λ vars. parsed (constraint_of vars r ∷ [])) (map_back (v ∷ new)))

  each_read : (cs : List Constraint) → Every (IsConstraint p) cs → (raws : List RawConstraint) → AreEach (IsRawConstraint written) cs IsEmpty raws
      → joined (map (constraints names []) raws) ≡ parsed cs
  each_read [] are _ empty = refl
  each_read (c ∷ cs) are _ (first x raws so more) = rw (for_each_read c.vars are.0.vars c.rule are.0.formulas x so, each_read cs are.1 raws more) refl

  pub constraints_read : (cs : List Constraint) → Every (IsConstraint p) cs → (raw : RawConstraint) → AreRawConstraints written cs raw → constraints names [] raw ≡ parsed cs
  constraints_read cs are _ (all_of raws so) = constraints-And names [] raws ∙ each_read cs are raws so

module _ (names : Declarations) (p : Parts) (agree : Declares names p p.objects) where
  pub metric_read : (m : Option Metric) → OnMetric p m → (raw : Option RawMetric) → IsRawMetric m raw → metric_of names raw ≡ parsed m
  metric_read _ is _ no_metric = refl
  metric_read _ is _ (a_metric m raw minimize so) =
      rw (plain_expressions_are_named names p p.objects agree setting.Metric [] [] (λ v. refl) m.value is.0 is.1 raw.value so, minimize) refl
