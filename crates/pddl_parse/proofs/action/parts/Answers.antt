use Rattle.std.proofs.Common.{◌∙◌}
use Rattle.pddl_parse.proofs.Pairing.{parts_on}
use Rattle.pddl_parse.proofs.action.parts.Goals as goal

pub reading-preserved : goal.reading-preserved
reading-preserved c = c.reading.invariant
    ∙ parts_on c.reading.action c.put-action.result c.args.place c.reading.keys c.with-keys.result
    c.in-Some.tree.now c.in-Some-split_first.value.now c.in_ok-key.key c.in_ok-part_of.field-0
    c.reading.rest.now c.in-Some.behind.now c.in-Some-split_first.behind.now
    c.in-Some.ensures.cases.0 c.in-Some-split_first.ensures.cases.0 c.in_ok-key.ensures.ok c.with-keys.ensures
    c.in_ok-part_of.ensures.ok c.put-action.ensures
