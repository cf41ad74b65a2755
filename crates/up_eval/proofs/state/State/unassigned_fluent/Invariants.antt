use Rattle.std.proofs.Common.{◌≡◌}
use Rattle.up_tree.specs.Objects.{unassigned}
use Rattle.up_tree.specs.Value.{ground_at}
use Rattle.up_eval.specs.Numbers.{fluent_value}
use Rattle.up_eval.proofs.Compared.{found}
use Rattle.up_eval.proofs.state.State.unassigned_fluent.Given as goal

abbrev pub invariant-loop-key : goal.invariant-loop-key
invariant-loop-key l =
    fluent_value l.fn.self unassigned l.fn.name l.fn.args ≡ found l.key-iterator (ground_at l.fn.self unassigned l.fn.name l.fn.args)
