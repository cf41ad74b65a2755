use Rattle.std.proofs.Common.{◌∙◌}
use Rattle.pddl_parse.proofs.Pairing.{lacks_on}
use Rattle.pddl_parse.proofs.action.lacks_value.Goals as goal

pub pairing-preserved : goal.pairing-preserved
pairing-preserved c = c.pairing.invariant
    ∙ lacks_on c.pairing.keys c.with-keys.result c.in-Some.tree.now c.in-Some-split_first.field-0-0.now c.in-Ok.key
    c.pairing.rest.now c.in-Some.behind.now c.in-Some-split_first.behind.now
    c.in-Some.ensures.cases.0 c.in-Some-split_first.ensures.cases.0 c.in-Ok.ensures.ok c.with-keys.ensures
