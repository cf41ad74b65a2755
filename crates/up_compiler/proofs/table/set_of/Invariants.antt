use Rattle.std.proofs.Common.{◌≡◌, take}
use Rattle.up_kind.specs.Features.{has, is_in}
use Rattle.up_compiler.proofs.table.set_of.Given as goal

abbrev pub invariant-loop-feature : goal.invariant-loop-feature
invariant-loop-feature l = has l.kind.0 ≡ is_in (take l.feature-index l.features)
