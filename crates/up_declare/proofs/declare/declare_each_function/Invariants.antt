use Rattle.std.proofs.Common.{◌≡◌, drop}
use Rattle.up_phrase.specs.Declarations.{declarations}
use Rattle.up_phrase.specs.Walks.{in_turn}
use Rattle.up_declare.specs.Declaring.{with_function}
use Rattle.up_declare.proofs.declare.declare_each_function.Given as goal

-- the group is declared from the function that the traversal has come to
abbrev pub invariant-loop-symbol : goal.invariant-loop-symbol
invariant-loop-symbol l =
    in_turn (with_function l.gives) l.symbols (declarations l.fn.names) ≡ in_turn (with_function l.gives) (drop l.symbol-index l.symbols) (declarations l.names)
