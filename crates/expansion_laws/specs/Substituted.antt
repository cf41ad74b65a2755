-- Effects, rows, whole actions and the rules of constraints whose variables are replaced by objects.
use Rattle.std.specs.Prelude.{List, [], map}
use Rattle.up_text.specs.declared.name.Name.{Name}
use Rattle.up_tree.specs.declared.term.Typed.{Typed}
use Rattle.up_tree.specs.declared.action.Action.{Action}
use Rattle.up_tree.specs.declared.action.Row.{Row}
use Rattle.up_tree.specs.declared.action.Effect.{Effect}
use Rattle.up_tree.specs.declared.action.Effect.TheVariants.{Add, Delete, Number, Object, Undefine}
use Rattle.up_tree.specs.declared.problem.Rule.{Rule}
use Rattle.up_tree.specs.declared.problem.Rule.TheVariants.{Always, Sometime, AtMostOnce, SometimeAfter, SometimeBefore}
use Rattle.semantics_laws.specs.Replaced.{Replacement, replacement, under, replaced_term, replaced_expr, replaced, substituted}

abbrev pub replaced_effect : Replacement → Effect → Effect
replaced_effect r (Add name ts) = Add name (map (replaced_term r) ts)
replaced_effect r (Delete name ts) = Delete name (map (replaced_term r) ts)
replaced_effect r (Number change f ts x) = Number change f (map (replaced_term r) ts) (replaced_expr r x)
replaced_effect r (Object f ts t) = Object f (map (replaced_term r) ts) (replaced_term r t)
replaced_effect r (Undefine f ts) = Undefine f (map (replaced_term r) ts)

-- not the row's own variables
abbrev pub replaced_effect_row : Replacement → Row → Row
replaced_effect_row r row =
    let inside = under row.vars r in
    record { vars = row.vars; when = replaced inside row.when; effect = replaced_effect inside row.effect }

abbrev pub replaced_rule : Replacement → Rule → Rule
replaced_rule r (Always f) = Always (replaced r f)
replaced_rule r (Sometime f) = Sometime (replaced r f)
replaced_rule r (AtMostOnce f) = AtMostOnce (replaced r f)
replaced_rule r (SometimeAfter f g) = SometimeAfter (replaced r f) (replaced r g)
replaced_rule r (SometimeBefore f g) = SometimeBefore (replaced r f) (replaced r g)

-- ---- the variables of a list, each by the object at its place

abbrev pub substituted_effect : List Typed → List Name → Effect → Effect
substituted_effect vars objects f = replaced_effect (replacement vars objects) f

abbrev pub substituted_row : List Typed → List Name → Row → Row
substituted_row vars objects row = replaced_effect_row (replacement vars objects) row

abbrev pub substituted_rule : List Typed → List Name → Rule → Rule
substituted_rule vars objects rule = replaced_rule (replacement vars objects) rule

-- the action at its arguments, without parameters, under a name of its own
abbrev pub instance : Name → Action → List Name → Action
instance name a args =
    let pre = substituted a.params args a.pre in
    record { name = name; params = []; pre = pre; rows = map (substituted_row a.params args) a.rows }
