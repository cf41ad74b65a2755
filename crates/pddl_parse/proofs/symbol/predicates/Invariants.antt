use Rattle.std.proofs.Common.{◌≡◌, map, drop}
use Rattle.pddl_lex.specs.Parses.{all, before}
use Rattle.pddl_parse.specs.Symbols.{symbol}
use Rattle.pddl_parse.proofs.symbol.predicates.Given as goal

-- the predicates so far come before those of the rest
abbrev pub invariant-loop-tree : goal.invariant-loop-tree
invariant-loop-tree l = all (map symbol l.items) ≡ before l.made (all (map symbol (drop l.tree-index l.items)))
