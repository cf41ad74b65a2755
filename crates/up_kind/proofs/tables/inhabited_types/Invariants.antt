use Rattle.std.proofs.Common.{take}
use Rattle.up_kind.proofs.Marking.{MarksOf}
use Rattle.up_kind.proofs.tables.inhabited_types.Given as goal

abbrev pub invariant-loop-object : goal.invariant-loop-object
invariant-loop-object l = MarksOf l.parts.types (take l.object-index l.parts.objects) l.marks
