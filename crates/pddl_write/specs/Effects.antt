-- How effects, actions and constraints are written.
use Rattle.std.specs.Prelude.{ℕ, Bool, if◌then◌else◌, List, [], ◌∷◌, ◌++◌, codes}
use Rattle.up_tree.specs.declared.term.Typed.{Typed}
use Rattle.up_tree.specs.declared.formula.Formula.{Formula}
use Rattle.up_tree.specs.declared.action.Change.{Change}
use Rattle.up_tree.specs.declared.action.Change.TheVariants.{Assign, Increase, Decrease, ScaleUp, ScaleDown}
use Rattle.up_tree.specs.declared.action.Effect.{Effect}
use Rattle.up_tree.specs.declared.action.Effect.TheVariants.{Add, Delete, Number, Object, Undefine}
use Rattle.up_tree.specs.declared.action.Row.{Row}
use Rattle.up_tree.specs.declared.action.Action.{Action}
use Rattle.up_tree.specs.declared.problem.Rule.{Rule}
use Rattle.up_tree.specs.declared.problem.Rule.TheVariants.{Always, Sometime, AtMostOnce, SometimeAfter, SometimeBefore}
use Rattle.up_tree.specs.declared.problem.Constraint.{Constraint}
use Rattle.up_tree.specs.Simplify.{is_true_formula}
use Rattle.up_line.specs.Spaced.{spaced}
use Rattle.pddl_write.specs.Phrases.{variables_text, applied, term_text, expr_text, formula_text}

abbrev pub change_text : Change → List ℕ
change_text Assign = codes "assign"
change_text Increase = codes "increase"
change_text Decrease = codes "decrease"
change_text ScaleUp = codes "scale-up"
change_text ScaleDown = codes "scale-down"

abbrev pub effect_text : Effect → List ℕ
effect_text (Add name ts) = applied name ts
effect_text (Delete name ts) = codes "(not " ++ applied name ts ++ codes ")"
effect_text (Number change f ts x) = codes "(" ++ change_text change ++ codes " " ++ applied f ts ++ codes " " ++ expr_text x ++ codes ")"
effect_text (Object f ts t) = codes "(assign " ++ applied f ts ++ codes " " ++ term_text t ++ codes ")"
effect_text (Undefine f ts) = codes "(assign " ++ applied f ts ++ codes " undefined)"

-- inside a `forall` where there are variables
abbrev pub for_each : Bool → List Typed → List ℕ → List ℕ
for_each typed [] text = text
for_each typed (v ∷ vars) text = codes "(forall (" ++ variables_text typed (v ∷ vars) ++ codes ") " ++ text ++ codes ")"

-- inside a `when` where the condition isn't `true`
abbrev pub under : Bool → Formula → List ℕ → List ℕ
under typed f text = if is_true_formula f then text else codes "(when " ++ formula_text typed f ++ codes " " ++ text ++ codes ")"

abbrev pub effect_row_text : Bool → Row → List ℕ
effect_row_text typed r = for_each typed r.vars (under typed r.when (effect_text r.effect))

-- the line of an action
abbrev pub action_text : Bool → Action → List ℕ
action_text typed a =
    codes "(:action " ++ a.name ++ codes " :parameters (" ++ variables_text typed a.params ++ codes ") :precondition " ++ formula_text typed a.pre ++ codes " :effect (and" ++ spaced (effect_row_text typed) a.rows ++ codes "))\n"

abbrev pub rule_word : Rule → List ℕ
rule_word (Always f) = codes "always"
rule_word (Sometime f) = codes "sometime"
rule_word (AtMostOnce f) = codes "at-most-once"
rule_word (SometimeAfter f g) = codes "sometime-after"
rule_word (SometimeBefore f g) = codes "sometime-before"

-- one formula or two, each with a space before it
abbrev pub operands_text : Bool → Rule → List ℕ
operands_text typed (Always f) = codes " " ++ formula_text typed f
operands_text typed (Sometime f) = codes " " ++ formula_text typed f
operands_text typed (AtMostOnce f) = codes " " ++ formula_text typed f
operands_text typed (SometimeAfter f g) = codes " " ++ formula_text typed f ++ codes " " ++ formula_text typed g
operands_text typed (SometimeBefore f g) = codes " " ++ formula_text typed f ++ codes " " ++ formula_text typed g

abbrev pub rule_text : Bool → Rule → List ℕ
rule_text typed r = codes "(" ++ rule_word r ++ operands_text typed r ++ codes ")"

abbrev pub constraint_text : Bool → Constraint → List ℕ
constraint_text typed c = for_each typed c.vars (rule_text typed c.rule)

-- the line of the constraints
abbrev pub constraints_text : Bool → List Constraint → List ℕ
constraints_text typed cs = codes "(:constraints (and" ++ spaced (constraint_text typed) cs ++ codes "))\n"
