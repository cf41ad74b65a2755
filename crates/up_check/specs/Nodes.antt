-- A name for the node of a raw constraint under a `forall`, by which definitions go case by case.
use Rattle.std.specs.Prelude.{List}
use Rattle.pddl_parse.specs.declared.raw.RawGroup.{RawGroup}
use Rattle.pddl_parse.specs.declared.raw.RawConstraint.{RawConstraint, end_of-RawConstraint, more_of-RawConstraint, Forall'}
use Rattle.pddl_parse.specs.declared.raw.RawConstraint.TheBlock.{shape-the_row-RawConstraint-1, hidden-the_row-RawConstraint-1}
use denote.Hole.Carrier

pattern abbrev pub forall : List RawGroup → RawConstraint → RawConstraint
forall groups body = Forall' groups tt (more_of-RawConstraint body end_of-RawConstraint)

-- Named on an `unfolding` line, it lets a node that code builds compute to the node above.
unfoldable pub built : Unit {0}
unfolding shape-the_row-RawConstraint-1 hidden-the_row-RawConstraint-1 Carrier.hidden
built = tt
