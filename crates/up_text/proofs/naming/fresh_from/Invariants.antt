use Rattle.std.proofs.Common.{◌+◌, ◌-◌, length}
use Rattle.up_text.specs.Fresh.{AreTaken}
use Rattle.up_text.proofs.naming.fresh_from.Given as goal

abbrev pub invariant-trying : goal.invariant-trying
invariant-trying l = AreTaken l.base l.used l.number

abbrev pub decreases-trying : goal.decreases-trying
decreases-trying l = length l.used + 18 - l.number
