use Rattle.std.proofs.Common.{◌≡◌, map, drop}
use Rattle.pddl_lex.specs.Parses.{all, before}
use Rattle.pddl_parse.specs.Effects.{effect}
use Rattle.pddl_parse.proofs.effect.+effect.Given as goal

-- the effects so far come before those of the rest
abbrev pub invariant-raw_effects-loop-tree : goal.invariant-raw_effects-loop-tree
invariant-raw_effects-loop-tree l = all (map effect l.items) ≡ before l.made (all (map effect (drop l.tree-index l.items)))
