use Rattle.std.proofs.Common.{◌∙◌, ap}
use Rattle.pddl_lex.specs.Parses.{first}
use Rattle.up_phrase.specs.Declarations.{declarations}
use Rattle.up_check.specs.Held.{held}
use Rattle.up_phrase.proofs.Steps.{handed_on}
use Rattle.up_check.proofs.Stating.{stated_off}
use Rattle.up_check.proofs.init.add_members.Goals as goal

pub returns-in_err-add_member-clause-err : goal.returns-in_err-add_member-clause-err
returns-in_err-add_member-clause-err c =
    handed_on c.from_residual.result c.in_err-add_member.field-0.0 _ c.from_residual.ensures.1
    (λ some. ap first c.loop-member.invariant
    ∙ stated_off (declarations c.args.names.now) (held c.loop-member.init) c.args.members.now c.loop-member.member-index c.member-item.result
    c.in_err-add_member.field-0.0 c.loop-member-test.true c.member-item.is (c.in_err-add_member.ensures.err some))
