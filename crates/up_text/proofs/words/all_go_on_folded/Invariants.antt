use Rattle.std.proofs.Common.{◌≡◌, length}
use Rattle.up_text.specs.Names.{all_go_on, folded}
use Rattle.up_text.proofs.words.all_go_on_folded.Given as goal

abbrev pub invariant-testing : goal.invariant-testing
invariant-testing l = all_go_on (folded l.bytes) ≡ all_go_on (folded l.rest)

abbrev pub decreases-testing : goal.decreases-testing
decreases-testing l = length l.rest
