use Rattle.std.proofs.Common.{◌≡◌, drop}
use Rattle.up_eval.specs.Gathering.{put_objects}
use Rattle.up_eval.proofs.table.Table+Name.with_objects.Given as goal

abbrev pub invariant-loop-change : goal.invariant-loop-change
invariant-loop-change l = put_objects l.fn.self l.changes ≡ put_objects l.all (drop l.change-index l.changes)
