use Rattle.std.proofs.Common.{sym, ◌∙◌}
use Rattle.up_kind.proofs.Filed.{at_object, elsewhere}
use Rattle.up_kind.proofs.meeting.meets_by.Goals as goal

pub returns-then-meets_under : goal.returns-then-meets_under
returns-then-meets_under c =
    sym (at_object c.args.tables.now c.args.action.now c.args.delete.now c.args.name.now c.in-Some._object.now c.args.args.now c.args.adds.now.by_object
    c.in_ok-key.key c.in_ok-bare.bare c.requires.object c.requires.of (sym c.in-Some.ensures) c.in_ok-key.ensures.name c.in_ok-key.ensures.args
    c.in_ok-bare.ensures.name c.in_ok-bare.ensures.args
    (sym c.meets_under-2.ensures ∙ c.if-meets_under.true))

pub returns : goal.returns
returns c =
    c.meets_under-3.ensures ∙ elsewhere c.args.tables.now c.args.action.now c.args.delete.now c.args.name.now c.in-Some._object.now c.args.args.now c.args.adds.now.by_object
    c.in_ok-key.key c.in_ok-bare.bare c.requires.object c.requires.of (sym c.in-Some.ensures) c.in_ok-key.ensures.name c.in_ok-key.ensures.args
    c.in_ok-bare.ensures.name c.in_ok-bare.ensures.args
    (sym c.meets_under-2.ensures ∙ c.if-meets_under.false)
