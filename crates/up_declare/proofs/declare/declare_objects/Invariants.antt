use Rattle.std.proofs.Common.{◌≡◌, drop}
use Rattle.up_phrase.specs.Declarations.{declarations}
use Rattle.up_phrase.specs.Walks.{in_turn}
use Rattle.up_declare.specs.Declaring.{with_group}
use Rattle.up_declare.proofs.declare.declare_objects.Given as goal

-- the list is declared from the group that the traversal has come to
abbrev pub invariant-loop-group : goal.invariant-loop-group
invariant-loop-group l =
    in_turn with_group l.groups (declarations l.fn.names) ≡ in_turn with_group (drop l.group-index l.groups) (declarations l.names)
