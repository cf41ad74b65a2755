use Rattle.up_map.specs.Named.{entry_under}
use Rattle.up_map.proofs.Kept.{Found, at_more, at_fault}
use Rattle.up_map.proofs.converting.back_steps.Goals as goal

pub loop-step-preserved : goal.loop-step-preserved
loop-step-preserved c =
    let found : Found c.args.entries.now c.args.steps.now c.loop-step.step-index c.step-item.result (entry_under c.in_ok-table.table c.step-item.result.action) =
    record { within = c.loop-step-test.true; is = c.step-item.is; has = c.in_ok-table.ensures c.step-item.result.action } in
    at_more c.args.entries.now c.args.steps.now c.loop-step.made c.add_kept.new.steps c.loop-step.step-index c.loop-step.number c.step-item.result
    (entry_under c.in_ok-table.table c.step-item.result.action) c.in-Ok.kept found c.in-Ok.ensures.kept c.in-Ok-add_kept.ensures c.loop-step.invariant

pub returns-in-Err-clause-unfit : goal.returns-in-Err-clause-unfit
returns-in-Err-clause-unfit c =
    let found : Found c.args.entries.now c.args.steps.now c.loop-step.step-index c.step-item.result (entry_under c.in_ok-table.table c.step-item.result.action) =
    record { within = c.loop-step-test.true; is = c.step-item.is; has = c.in_ok-table.ensures c.step-item.result.action } in
    λ other. (at_fault c.args.entries.now c.args.steps.now c.loop-step.made c.loop-step.step-index c.loop-step.number c.step-item.result
    (entry_under c.in_ok-table.table c.step-item.result.action) c.in-Err.fault found (c.in-Err.ensures.fault other) c.loop-step.invariant).0

pub returns-in-Err-clause-refused : goal.returns-in-Err-clause-refused
returns-in-Err-clause-refused c =
    let found : Found c.args.entries.now c.args.steps.now c.loop-step.step-index c.step-item.result (entry_under c.in_ok-table.table c.step-item.result.action) =
    record { within = c.loop-step-test.true; is = c.step-item.is; has = c.in_ok-table.ensures c.step-item.result.action } in
    λ other. (at_fault c.args.entries.now c.args.steps.now c.loop-step.made c.loop-step.step-index c.loop-step.number c.step-item.result
    (entry_under c.in_ok-table.table c.step-item.result.action) c.in-Err.fault found (c.in-Err.ensures.fault other) c.loop-step.invariant).1
