-- How a rule stands while a run goes on.
use Rattle.std.specs.Prelude.{◌≡◌, Bool, true, false, ◌&&◌, List, [], ◌∷◌, map}
use Rattle.up_text.specs.declared.name.Name.{Name}
use Rattle.up_tree.specs.declared.formula.Formula.{Formula}
use Rattle.up_tree.specs.declared.problem.Constraint.{Constraint}
use Rattle.up_tree.specs.declared.problem.Rule.{Rule}
use Rattle.up_tree.specs.declared.problem.Rule.TheVariants as rule
use Rattle.up_tree.specs.Objects.{World, Assignment, assign, unassigned, tuples}
use Rattle.up_tree.specs.State.{State}
use Rattle.up_tree.specs.Judged.{truth_of, is_true}
use Rattle.up_validate.specs.declared.phase.Phase.{Phase}
use Rattle.up_validate.specs.declared.phase.Phase.TheVariants as phase

-- what the variables of a constraint can stand for
abbrev pub assignments : World → Constraint → List Assignment
assignments w c = map (λ tuple. assign c.vars tuple unassigned) (tuples w c.vars)

-- before the first state
abbrev pub start : Rule → Phase
start (rule.Sometime f) = phase.Waiting
start r = phase.Fine

abbrev pub always_next : Phase → Bool → Phase
always_next phase.Fine true = phase.Fine
always_next ph holds = phase.Broken

abbrev pub sometime_next : Phase → Bool → Phase
sometime_next ph true = phase.Fine
sometime_next ph false = ph

abbrev pub once_next : Phase → Bool → Phase
once_next phase.Fine true = phase.Holding
once_next phase.Holding false = phase.Over
once_next phase.Over true = phase.Broken
once_next ph holds = ph

-- by whether the rule's first and second formula are true
abbrev pub after_next : Phase → Bool → Bool → Phase
after_next ph holds true = phase.Fine
after_next ph true false = phase.Waiting
after_next ph false false = ph

abbrev pub before_next : Phase → Bool → Bool → Phase
before_next phase.Fine true other = phase.Broken
before_next phase.Fine false true = phase.Over
before_next ph holds other = ph

abbrev pub holds_in : World → State → Assignment → Formula → Bool
holds_in w s e f = is_true (truth_of w s e f)

-- after one more state
abbrev pub next : World → Assignment → Rule → Phase → State → Phase
next w e (rule.Always f) ph s = always_next ph (holds_in w s e f)
next w e (rule.Sometime f) ph s = sometime_next ph (holds_in w s e f)
next w e (rule.AtMostOnce f) ph s = once_next ph (holds_in w s e f)
next w e (rule.SometimeAfter f g) ph s = after_next ph (holds_in w s e f) (holds_in w s e g)
next w e (rule.SometimeBefore f g) ph s = before_next ph (holds_in w s e f) (holds_in w s e g)

-- after more states, each of which leads on so
abbrev pub goes : (Phase → State → Phase) → Phase → List State → Phase
goes on ph [] = ph
goes on ph (s ∷ states) = goes on (on ph s) states

abbrev pub phase_after : World → Assignment → Rule → List State → Phase
phase_after w e r states = goes (next w e r) (start r) states

-- whether the rule is kept where the run ends
abbrev pub is_kept : Phase → Bool
is_kept phase.Waiting = false
is_kept phase.Broken = false
is_kept ph = true

-- after these states, under each assignment
abbrev pub phases_after : World → List State → Constraint → List Phase
phases_after w states c = map (λ e. phase_after w e c.rule states) (assignments w c)

abbrev pub all_after : World → List Constraint → List State → List (List Phase)
all_after w cs states = map (phases_after w states) cs
