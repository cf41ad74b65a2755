use Rattle.std.proofs.Common.{◌≡◌, map, drop}
use Rattle.pddl_lex.specs.Parses.{before}
use Rattle.up_phrase.specs.Declarations.{declarations}
use Rattle.up_effect.specs.Effects.{together, rows}
use Rattle.up_effect.specs.Walk.{around}
use Rattle.up_effect.proofs.effect.Flattening.+effect.Given as goal

-- the rows so far come before those of the rest, and what stands around is as it was
abbrev pub invariant-effects-loop-member : goal.invariant-effects-loop-member
invariant-effects-loop-member l = record {
  so_far :
      before l.fn.self.rows (together (map (rows (declarations l.names) (around l.fn.self)) l.members))
      ≡ before l.self.rows (together (map (rows (declarations l.names) (around l.fn.self)) (drop l.member-index l.members)));
  kept : around l.self ≡ around l.fn.self;
}
