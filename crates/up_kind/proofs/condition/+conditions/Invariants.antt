use Rattle.std.proofs.Common.{◌≡◌, take}
use Rattle.up_kind.specs.Features.{has, over}
use Rattle.up_kind.specs.Gathered.{of_condition}
use Rattle.up_kind.proofs.condition.+conditions.Given as goal

abbrev pub invariant-of_conditions-loop-member : goal.invariant-of_conditions-loop-member
invariant-of_conditions-loop-member l = has l.kind.0 ≡ over of_condition (take l.member-index l.members)
