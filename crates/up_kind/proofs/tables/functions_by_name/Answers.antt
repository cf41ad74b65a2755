use Rattle.up_tree.specs.declared.problem.Function.{Function}
use Rattle.up_kind.proofs.Naming.{behind_more}
use Rattle.up_kind.proofs.tables.functions_by_name.Goals as goal

pub naming-preserved : goal.naming-preserved
naming-preserved c =
    behind_more (λ (d : Function). d.name) c.naming.table c.insert.new.self c.naming.rest.now c.in-Some.others.now c.args.parts.now.functions c.in-Some.function c.in_ok-copy.field-0
    c.in-Some.ensures.cases.0 c.in_ok-copy.ensures c.in_ok-insert.ensures.updates.0 c.naming.invariant
