-- The features of the variants are within the table's row.
use Rattle.std.proofs.Common.{◌≡◌, Bool, true, false, not as flip, ◌||◌, ◌&&◌, refl, ap, sym, ◌∙◌, subst}
use Rattle.std.specs.List.{list_any}
use Rattle.up_text.specs.Lists.{Member}
use Rattle.up_tree.specs.declared.action.Row.{Row}
use Rattle.up_tree.specs.declared.problem.Parts.{Parts}
use Rattle.up_tree.specs.Simplify.{is_empty, is_true_formula}
use Rattle.up_tree.specs.WellFormed.{IsWellFormed}
use Rattle.up_kind.specs.declared.feature.Feature.TheVariants.{FlatTyping, HierarchicalTyping, ActionParameters, NegativeConditions, DisjunctiveConditions, Equalities, ExistentialConditions, UniversalConditions, ConditionalEffects, ForallEffects, ObjectFluents, NumericFluents, NumericConditions, NumericEffects, ScaleEffects, Metric, TrajectoryConstraints, EffectOverlap, ObjectTermsUnderForall, PartialFluents}
use Rattle.up_kind.specs.Features.{IsSubset, is_in, either, minus}
use Rattle.up_kind.specs.Carried.{carries, is_total, gives_an_object, is_disjunctive, is_exists, is_forall, is_compare, is_numeric, is_scale, is_undefine, touches_objects, some_row}
use Rattle.up_compiler.specs.declared.id.CompilerId.TheVariants.{Overlaps}
use Rattle.up_compiler.specs.Table.{row_result}
use Rattle.step_laws.specs.Naming.{Stands}
use Rattle.compiling_laws.proofs.Lists.{or_told, false_true}
use Rattle.overlaps_laws.specs.Overlaps.{overlaps}
use Rattle.overlaps_laws.proofs.Features.{of_actions, of_rows, of_conditions, none_overlap, exists_apart, forall_apart, compare_apart, disjunctive_apart}
use Rattle.overlaps_laws.proofs.Splitting.{IsAdmitted, IsVariant, variant_params, variant_rows}

stays : (b : Bool) → b ≡ true → ((b && true) || false) ≡ true
stays true e = refl
stays false e = false_true e

added : (b c : Bool) → ((b && c) || true) ≡ true
added true true = refl
added true false = refl
added false c = refl

module _ (p : Parts) (formed : IsWellFormed p) (ok : IsAdmitted p) where
  abbrev q : Parts
  q = (overlaps p).parts

  rows_of : (pair : Stands) → IsVariant p pair → (r : Row) → Member r pair.new.rows → Member r pair.old.rows
  rows_of = variant_rows p formed ok

  rows_over : (test : Row → Bool) → some_row q test ≡ true → some_row p test ≡ true
  rows_over = of_rows p ok rows_of

  has_params : carries q ActionParameters ≡ true → carries p ActionParameters ≡ true
  has_params = of_actions p ok rows_of (λ a. flip (is_empty a.params)) (λ a. flip (is_empty a.params)) (λ pair is h.
      subst (λ l. flip (is_empty l) ≡ true) (variant_params p formed ok pair is) h)

  partial : carries q PartialFluents ≡ true → carries p PartialFluents ≡ true
  partial h = or_told (list_any (λ d. gives_an_object d && flip (is_total p d)) p.functions) (some_row q (λ r. is_undefine r.effect)) first second h
    where
      join : (a b : Bool) → a ≡ true → (a || b) ≡ true
      join a b e = ap (λ x. x || b) e

      join_last : (a b : Bool) → b ≡ true → (a || b) ≡ true
      join_last true b e = refl
      join_last false b e = e

      first : list_any (λ d. gives_an_object d && flip (is_total p d)) p.functions ≡ true → carries p PartialFluents ≡ true
      first e = join _ _ e

      second : some_row q (λ r. is_undefine r.effect) ≡ true → carries p PartialFluents ≡ true
      second e = join_last (list_any (λ d. gives_an_object d && flip (is_total p d)) p.functions) _ (rows_over (λ r. is_undefine r.effect) e)

  none_then : {X : Type 0} (b : Bool) → b ≡ false → b ≡ true → X
  none_then b off on = false_true (sym off ∙ on)

  pub within_row : IsSubset (carries q) (row_result Overlaps (carries p))
  unfolding either minus is_in
  within_row FlatTyping h = stays _ h
  within_row HierarchicalTyping h = stays _ h
  within_row ActionParameters h = stays _ (has_params h)
  within_row NegativeConditions h = added (carries p NegativeConditions) _
  within_row DisjunctiveConditions h = stays _ (of_conditions p ok rows_of is_disjunctive disjunctive_apart h)
  within_row Equalities h = added (carries p Equalities) _
  within_row ExistentialConditions h = stays _ (of_conditions p ok rows_of is_exists exists_apart h)
  within_row UniversalConditions h = stays _ (of_conditions p ok rows_of is_forall forall_apart h)
  within_row ConditionalEffects h = stays _ (rows_over (λ r. flip (is_true_formula r.when)) h)
  within_row ForallEffects h = stays _ (rows_over (λ r. flip (is_empty r.vars)) h)
  within_row ObjectFluents h = stays _ h
  within_row NumericFluents h = stays _ h
  within_row NumericConditions h = stays _ (of_conditions p ok rows_of is_compare compare_apart h)
  within_row NumericEffects h = stays _ (rows_over (λ r. is_numeric r.effect) h)
  within_row ScaleEffects h = stays _ (rows_over (λ r. is_scale r.effect) h)
  within_row Metric h = stays _ h
  within_row TrajectoryConstraints h = stays _ h
  within_row EffectOverlap h = none_then (carries q EffectOverlap) (none_overlap p ok rows_of) h
  within_row ObjectTermsUnderForall h = stays _ (rows_over (λ r. flip (is_empty r.vars) && touches_objects r.effect) h)
  within_row PartialFluents h = stays _ (partial h)
