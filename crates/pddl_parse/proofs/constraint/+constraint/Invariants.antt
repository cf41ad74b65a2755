use Rattle.std.proofs.Common.{◌≡◌, map, drop}
use Rattle.pddl_lex.specs.Parses.{all, before}
use Rattle.pddl_parse.specs.Constraints.{constraint}
use Rattle.pddl_parse.proofs.constraint.+constraint.Given as goal

-- the constraints so far come before those of the rest
abbrev pub invariant-raw_constraints-loop-tree : goal.invariant-raw_constraints-loop-tree
invariant-raw_constraints-loop-tree l = all (map constraint l.items) ≡ before l.made (all (map constraint (drop l.tree-index l.items)))
