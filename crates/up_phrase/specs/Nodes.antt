-- Names for the nodes of a raw condition, by which definitions go case by case.
use Rattle.std.specs.Prelude.{List}
use Rattle.pddl_parse.specs.declared.raw.RawFormula.{RawFormula, end_of-RawFormula, more_of-RawFormula, Not', Imply', Exists', Forall'}
use Rattle.pddl_parse.specs.declared.raw.RawGroup.{RawGroup}
use Rattle.pddl_parse.specs.declared.raw.RawFormula.TheBlock.{shape-the_row-RawFormula-1, hidden-the_row-RawFormula-1}
use denote.Hole.Carrier

pattern abbrev pub not : RawFormula → RawFormula
not f = Not' tt (more_of-RawFormula f end_of-RawFormula)

pattern abbrev pub imply : RawFormula → RawFormula → RawFormula
imply f g = Imply' tt (more_of-RawFormula f end_of-RawFormula) tt (more_of-RawFormula g end_of-RawFormula)

pattern abbrev pub exists : List RawGroup → RawFormula → RawFormula
exists groups f = Exists' groups tt (more_of-RawFormula f end_of-RawFormula)

pattern abbrev pub forall : List RawGroup → RawFormula → RawFormula
forall groups f = Forall' groups tt (more_of-RawFormula f end_of-RawFormula)

-- Named on an `unfolding` line, it lets a node that code builds compute to the node above.
unfoldable pub built : Unit {0}
unfolding shape-the_row-RawFormula-1 hidden-the_row-RawFormula-1 Carrier.hidden
built = tt
