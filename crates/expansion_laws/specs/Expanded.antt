-- Quantifiers and rows with variables by their instances.
use Rattle.std.specs.Prelude.{List, [], ◌∷◌, map, flat_map, length}
use Rattle.std.specs.Option.{option_or}
use Rattle.up_tree.specs.declared.formula.Formula.{Formula, And, And', Or, Or', Atom, Equal, Compare, Row_of-Formula, end_of-Formula, more_of-Formula}
use Rattle.up_tree.specs.declared.action.Row.{Row}
use Rattle.up_tree.specs.declared.action.Action.{Action}
use Rattle.up_tree.specs.declared.problem.Parts.{Parts}
use Rattle.up_tree.specs.Nodes.{not, imply, exists, forall}
use Rattle.up_tree.specs.Objects.{World, world, Assignment, assign, unassigned, tuples}
use Rattle.semantics_laws.specs.Replaced.{replaced_term, replaced_expr}
use Rattle.expansion_laws.specs.Substituted.{replaced_effect}

-- what the first assigns, and else what the second does
abbrev pub over : Assignment → Assignment → Assignment
over e d v = option_or (e v) (d v)

-- An `or` of the instances of an `exists`, an `and` of those of a `forall`, from the outside in. The assigned
-- variables are replaced by their objects.
unfoldable mutual
  pub expanded : World → Assignment → Formula → Formula
  expanded w e (And' n fs) = And (all_expanded w e fs)
  expanded w e (Or' n fs) = Or (all_expanded w e fs)
  expanded w e (not f) = not (expanded w e f)
  expanded w e (imply f g) = imply (expanded w e f) (expanded w e g)
  expanded w e (exists vars f) = Or (map (λ tuple. expanded w (assign vars tuple e) f) (tuples w vars))
  expanded w e (forall vars f) = And (map (λ tuple. expanded w (assign vars tuple e) f) (tuples w vars))
  expanded w e (Atom name ts) = Atom name (map (replaced_term e) ts)
  expanded w e (Equal t u) = Equal (replaced_term e t) (replaced_term e u)
  expanded w e (Compare r a b) = Compare r (replaced_expr e a) (replaced_expr e b)

  pub all_expanded : World → Assignment → {n : _} → Row_of-Formula n → List Formula
  all_expanded w e end_of-Formula = []
  all_expanded w e (more_of-Formula f fs) = expanded w e f ∷ all_expanded w e fs

-- a row without variables
abbrev pub row_at : World → Assignment → Row → Row
row_at w e row = record { vars = []; when = expanded w e row.when; effect = replaced_effect e row.effect }

-- one row for each tuple of the variables, in their order
abbrev pub row_expanded : World → Assignment → Row → List Row
row_expanded w e row = map (λ tuple. row_at w (assign row.vars tuple e) row) (tuples w row.vars)

-- the parameters stay
abbrev pub action_expanded : World → Action → Action
action_expanded w a =
    let pre = expanded w unassigned a.pre in
    record { name = a.name; params = a.params; pre = pre; rows = flat_map (row_expanded w unassigned) a.rows }

-- the constraints stay; actions may name any object, as expansion puts objects in
abbrev pub problem_expanded : Parts → Parts
problem_expanded p = record p {
  constants = length p.objects;
  actions = map (action_expanded (world p)) p.actions;
  goal = expanded (world p) unassigned p.goal;
}
