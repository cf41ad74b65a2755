-- Names for the nodes of a raw effect, by which definitions go case by case.
use Rattle.std.specs.Prelude.{List}
use Rattle.pddl_parse.specs.declared.raw.RawEffect.{RawEffect, end_of-RawEffect, more_of-RawEffect, Forall', When'}
use Rattle.pddl_parse.specs.declared.raw.RawFormula.{RawFormula}
use Rattle.pddl_parse.specs.declared.raw.RawGroup.{RawGroup}
use Rattle.pddl_parse.specs.declared.raw.RawEffect.TheBlock.{shape-the_row-RawEffect-1, hidden-the_row-RawEffect-1}
use denote.Hole.Carrier

pattern abbrev pub for_all : List RawGroup → RawEffect → RawEffect
for_all groups body = Forall' groups tt (more_of-RawEffect body end_of-RawEffect)

pattern abbrev pub when : RawFormula → RawEffect → RawEffect
when condition body = When' condition tt (more_of-RawEffect body end_of-RawEffect)

-- Named on an `unfolding` line, it lets a node that code builds compute to the node above.
unfoldable pub built : Unit {0}
unfolding shape-the_row-RawEffect-1 hidden-the_row-RawEffect-1 Carrier.hidden
built = tt
