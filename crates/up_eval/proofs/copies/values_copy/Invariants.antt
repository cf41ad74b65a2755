use Rattle.std.proofs.Common.{◌≡◌, length}
use Rattle.std.specs.FinMap as table
use Rattle.up_eval.specs.Initial.{put_all}
use Rattle.up_eval.proofs.copies.values_copy.Given as goal

abbrev pub invariant-entries : goal.invariant-entries
invariant-entries l = table.from_entries l.entries.entries ≡ put_all l.rest l.copy

abbrev pub decreases-entries : goal.decreases-entries
decreases-entries l = length l.rest
