use Rattle.std.proofs.Common.{◌≡◌, map, drop}
use Rattle.pddl_lex.specs.Parses.{before}
use Rattle.up_phrase.specs.Declarations.{declarations}
use Rattle.up_phrase.specs.Scopes.{variables}
use Rattle.up_check.specs.Constraints.{constraints, joined}
use Rattle.up_check.proofs.constraint.Flattening.+constraint.Given as goal

-- the constraints so far come before those of the rest, and the scope is as it was
abbrev pub invariant-constraints-loop-member : goal.invariant-constraints-loop-member
invariant-constraints-loop-member l = record {
  so_far :
      before l.fn.self.constraints (joined (map (constraints (declarations l.names) (variables l.fn.self.scope)) l.members))
      ≡ before l.self.constraints (joined (map (constraints (declarations l.names) (variables l.fn.self.scope)) (drop l.member-index l.members)));
  kept : variables l.self.scope ≡ variables l.fn.self.scope;
}
