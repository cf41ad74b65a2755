use Rattle.std.proofs.Common.{◌≡◌, drop}
use Rattle.up_phrase.specs.Declarations.{declarations}
use Rattle.up_phrase.specs.Walks.{in_turn}
use Rattle.up_declare.specs.Declaring.{with_predicate}
use Rattle.up_declare.proofs.declare.declare_predicates.Given as goal

-- the list is declared from the predicate that the traversal has come to
abbrev pub invariant-loop-symbol : goal.invariant-loop-symbol
invariant-loop-symbol l =
    in_turn with_predicate l.symbols (declarations l.fn.names) ≡ in_turn with_predicate (drop l.symbol-index l.symbols) (declarations l.names)
