use Rattle.up_eval.proofs.Indexing.{rest_more, name_of_typed}
use Rattle.up_eval.proofs.index.typed_by_name.Goals as goal

pub naming-preserved : goal.naming-preserved
naming-preserved c =
    rest_more name_of_typed c.naming.table c.insert.new.self c.naming.rest.now c.in-Some.others.now c.args.entries.now c.in-Some.entry c.in_ok-copy.field-0
    c.in-Some.ensures.cases.0 c.in_ok-copy.ensures c.in_ok-insert.ensures.updates.0 c.naming.invariant
