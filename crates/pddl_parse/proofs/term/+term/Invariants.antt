use Rattle.std.proofs.Common.{◌≡◌, map, drop}
use Rattle.pddl_lex.specs.Parses.{all, before}
use Rattle.pddl_parse.specs.Terms.{term}
use Rattle.pddl_parse.proofs.term.+term.Given as goal

-- the terms so far come before those of the rest
abbrev pub invariant-raw_terms-loop-tree : goal.invariant-raw_terms-loop-tree
invariant-raw_terms-loop-tree l = all (map term l.items) ≡ before l.made (all (map term (drop l.tree-index l.items)))
