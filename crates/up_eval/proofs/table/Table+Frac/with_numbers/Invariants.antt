use Rattle.std.proofs.Common.{◌≡◌, drop}
use Rattle.up_eval.specs.Gathering.{put_numbers}
use Rattle.up_eval.proofs.table.Table+Frac.with_numbers.Given as goal

abbrev pub invariant-loop-new : goal.invariant-loop-new
invariant-loop-new l = put_numbers l.fn.self l.news ≡ put_numbers l.all (drop l.new-index l.news)
