use Rattle.std.proofs.Common.{◌≡◌, take}
use Rattle.up_text.specs.Names.{folded}
use Rattle.up_text.proofs.words.fold_case.Given as goal

abbrev pub invariant-folding : goal.invariant-folding
invariant-folding l = l.fold.items ≡ folded (take l.byte-index l.bytes)
