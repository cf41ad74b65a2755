use Rattle.std.proofs.Common.{◌≡◌, map, drop}
use Rattle.pddl_lex.specs.Parses.{all, before}
use Rattle.pddl_parse.specs.Shapes.{ident}
use Rattle.pddl_parse.proofs.start.idents.Given as goal

-- the names so far come before those of the rest
abbrev pub invariant-loop-tree : goal.invariant-loop-tree
invariant-loop-tree l = all (map ident l.items) ≡ before l.made (all (map ident (drop l.tree-index l.items)))
