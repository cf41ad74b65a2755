use Rattle.std.proofs.Common.{◌≡◌, map, drop}
use Rattle.pddl_lex.specs.Parses.{all, before}
use Rattle.pddl_parse.specs.Starts.{initial}
use Rattle.pddl_parse.proofs.start.start.Given as goal

-- the members so far come before those of the rest
abbrev pub invariant-loop-tree : goal.invariant-loop-tree
invariant-loop-tree l = all (map initial l.items) ≡ before l.made (all (map initial (drop l.tree-index l.items)))
