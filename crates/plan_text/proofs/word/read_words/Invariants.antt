use Rattle.std.proofs.Common.{◌≡◌, length}
use Rattle.plan_text.specs.Steps.{words}
use Rattle.plan_text.proofs.Wording.{before}
use Rattle.plan_text.proofs.word.read_words.Given as goal

abbrev pub invariant-reading : goal.invariant-reading
invariant-reading l = words l.line ≡ before l.names (words l.left)

abbrev pub decreases-reading : goal.decreases-reading
decreases-reading l = length l.left
