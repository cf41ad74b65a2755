use Rattle.std.proofs.Common.{◌≡◌, drop}
use Rattle.up_phrase.specs.Declarations.{declarations}
use Rattle.up_phrase.specs.Walks.{in_turn}
use Rattle.up_declare.specs.Declaring.{with_object}
use Rattle.up_declare.proofs.declare.declare_each.Given as goal

-- the group is declared from the name that the traversal has come to
abbrev pub invariant-loop-ident : goal.invariant-loop-ident
invariant-loop-ident l =
    in_turn (with_object l.of) l.idents (declarations l.fn.names) ≡ in_turn (with_object l.of) (drop l.ident-index l.idents) (declarations l.names)
