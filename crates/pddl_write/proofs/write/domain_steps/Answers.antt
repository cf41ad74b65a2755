use Rattle.std.proofs.Common.{ap, ◌∙◌}
use Rattle.up_kind.specs.Carried.{carries}
use Rattle.pddl_write.specs.Files.{domain_pieces_with, pieces_of_domain}
use Rattle.pddl_write.proofs.write.domain_steps.Goals as goal

pub returns : goal.returns
unfolding pieces_of_domain
returns c =
    ap (λ features. domain_pieces_with features c.parts.result.now) c.in_ok-kind.ensures
    ∙ ap (λ p. domain_pieces_with (carries c.args.p.now) p) c.parts.ensures
