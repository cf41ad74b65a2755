use Rattle.std.proofs.Common.{◌≡◌, map, drop}
use Rattle.pddl_lex.specs.Parses.{all, before}
use Rattle.pddl_parse.specs.Formulas.{formula}
use Rattle.pddl_parse.proofs.formula.+formula.Given as goal

-- the conditions so far come before those of the rest
abbrev pub invariant-raw_formulas-loop-tree : goal.invariant-raw_formulas-loop-tree
invariant-raw_formulas-loop-tree l = all (map formula l.items) ≡ before l.made (all (map formula (drop l.tree-index l.items)))
