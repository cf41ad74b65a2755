use Rattle.std.proofs.Common.{length}
use Rattle.up_tree.specs.declared.problem.Function.{Function}
use Rattle.up_kind.proofs.Naming.{HasBehind}
use Rattle.up_kind.proofs.tables.functions_by_name.Given as goal

abbrev pub invariant-naming : goal.invariant-naming
invariant-naming l = HasBehind (λ (d : Function). d.name) l.table l.rest l.parts.functions

abbrev pub decreases-naming : goal.decreases-naming
decreases-naming l = length l.rest
