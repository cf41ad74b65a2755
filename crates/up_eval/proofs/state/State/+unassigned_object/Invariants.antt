use Rattle.std.proofs.Common.{◌≡◌, ◌↔◌, Some, drop}
use Rattle.up_tree.specs.Objects.{unassigned}
use Rattle.up_tree.specs.Value.{term_value, values_of, ground_at}
use Rattle.up_eval.proofs.Compared.{found}
use Rattle.up_eval.proofs.state.State.+unassigned_object.Given as goal

abbrev pub invariant-is_key_of-loop-arg : goal.invariant-is_key_of-loop-arg
invariant-is_key_of-loop-arg l =
    (ground_at l.fn.self unassigned l.fn.name l.fn.args ≡ Some l.fn.key) ↔ (values_of l.fn.self unassigned (drop l.arg-index l.fn.args) ≡ Some l.left)

abbrev pub invariant-unassigned_object-loop-key : goal.invariant-unassigned_object-loop-key
invariant-unassigned_object-loop-key l =
    term_value l.fn.self unassigned l.fn.term ≡ found l.key-iterator (ground_at l.fn.self unassigned l.name l.args)
