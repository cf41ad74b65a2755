use Rattle.std.proofs.Common.{◌≡◌}
use Rattle.up_compiler.specs.Identity.{arguments}
use Rattle.up_compiler.proofs.identities.arguments.Given as goal

abbrev pub invariant-loop-place : goal.invariant-loop-place
invariant-loop-place l = l.items ≡ arguments l.place
