-- What each part of a problem carries, as one walk gathers it.
use Rattle.std.specs.Prelude.{◌&&◌, not as flip, is_some}
use Rattle.up_tree.specs.declared.formula.Formula.{Formula, And', Or', Atom, Equal, Compare}
use Rattle.up_tree.specs.declared.action.Row.{Row}
use Rattle.up_tree.specs.declared.action.Action.{Action}
use Rattle.up_tree.specs.declared.action.Effect.{Effect}
use Rattle.up_tree.specs.declared.problem.Constraint.{Constraint}
use Rattle.up_tree.specs.declared.problem.Function.{Function}
use Rattle.up_tree.specs.declared.problem.Parts.{Parts}
use Rattle.up_tree.specs.declared.term.Typed.{Typed}
use Rattle.up_tree.specs.Nodes.{not, imply, exists, forall}
use Rattle.up_tree.specs.Simplify.{is_empty, is_true_formula}
use Rattle.up_tree.specs.WellFormed.{top_type, formulas_of}
use Rattle.up_text.specs.Names.{same_name}
use Rattle.up_kind.specs.declared.feature.Feature.TheVariants.{FlatTyping, HierarchicalTyping, ActionParameters, NegativeConditions, DisjunctiveConditions, Equalities, ExistentialConditions, UniversalConditions, ConditionalEffects, ForallEffects, ObjectFluents, NumericFluents, NumericConditions, NumericEffects, ScaleEffects, Metric, TrajectoryConstraints, EffectOverlap, ObjectTermsUnderForall, PartialFluents}
use Rattle.up_kind.specs.Features.{FeatureSet, none, alone, alone_if, either, over}
use Rattle.up_kind.specs.Carried.{anywhere, is_scale, is_numeric, is_undefine, touches_objects, gives_an_object, is_total}
use Rattle.up_kind.specs.Meeting.{has_meeting_rows}

-- what a `not` carries by its operand
abbrev pub of_not : Formula → FeatureSet
of_not (Atom name ts) = alone NegativeConditions
of_not (Equal t u) = alone NegativeConditions
of_not f = either (alone NegativeConditions) (alone DisjunctiveConditions)

-- what one node carries
abbrev pub of_node : Formula → FeatureSet
of_node (And' n fs) = none
of_node (Or' n fs) = alone DisjunctiveConditions
of_node (not f) = of_not f
of_node (imply f g) = alone DisjunctiveConditions
of_node (exists vars f) = alone ExistentialConditions
of_node (forall vars f) = alone UniversalConditions
of_node (Atom name ts) = none
of_node (Equal t u) = alone Equalities
of_node (Compare r a b) = alone NumericConditions

unfoldable pub of_condition : Formula → FeatureSet
of_condition c f = anywhere (λ node. of_node node f) c

unfoldable pub of_effect : Effect → FeatureSet
of_effect e = either (alone_if (is_numeric e) NumericEffects) (either (alone_if (is_scale e) ScaleEffects) (alone_if (is_undefine e) PartialFluents))

unfoldable pub of_variables : Row → FeatureSet
of_variables r =
    either (alone_if (flip (is_empty r.vars)) ForallEffects) (alone_if (flip (is_empty r.vars) && touches_objects r.effect) ObjectTermsUnderForall)

unfoldable pub of_row : Row → FeatureSet
of_row r = either (alone_if (flip (is_true_formula r.when)) ConditionalEffects) (either (of_variables r) (either (of_effect r.effect) (of_condition r.when)))

unfoldable pub of_action : Parts → Action → FeatureSet
of_action p a =
    either (alone_if (flip (is_empty a.params)) ActionParameters)
    (either (alone_if (has_meeting_rows p a) EffectOverlap) (either (of_condition a.pre) (over of_row a.rows)))

unfoldable pub of_constraint : Constraint → FeatureSet
of_constraint c = over of_condition (formulas_of c.rule)

unfoldable pub of_type : Typed → FeatureSet
of_type t = either (alone FlatTyping) (alone_if (flip (same_name t.of top_type)) HierarchicalTyping)

unfoldable pub of_function : Parts → Function → FeatureSet
of_function p d =
    either (alone_if (gives_an_object d) ObjectFluents)
    (either (alone_if (flip (gives_an_object d)) NumericFluents) (alone_if (gives_an_object d && flip (is_total p d)) PartialFluents))

unfoldable pub of_problem : Parts → FeatureSet
of_problem p =
    either (alone_if (is_some p.metric) Metric)
    (either (alone_if (flip (is_empty p.constraints)) TrajectoryConstraints)
    (either (over of_type p.types)
    (either (over (of_function p) p.functions)
    (either (over (of_action p) p.actions) (either (of_condition p.goal) (over of_constraint p.constraints))))))
