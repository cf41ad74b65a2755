use Rattle.pddl_write.specs.Phrases.{formula_text}
use Rattle.up_line.proofs.Spaced.{spaced-more}
use Rattle.pddl_write.proofs.formula.+formulas.Goals as goal

pub put_members-loop-member-preserved : goal.put_members-loop-member-preserved
put_members-loop-member-preserved t c =
    let more = spaced-more (formula_text c.args.typed) c.args.members.now c.loop-member.member-index c.member-item.result c.args.line.now c.loop-member-test.true c.member-item.is in
    cc
