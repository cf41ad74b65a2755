use Rattle.std.proofs.Common.{rules, ◌≡◌, true, false, length, Some}
use Rattle.std.specs.Prelude.{◌≢◌}
use Rattle.up_tree.specs.Objects.{world, action_named}
use Rattle.up_eval.specs.Arguments.{are_known, are_typed}
use Rattle.up_eval.proofs.Fitting.{wrong_arity, wrong_type, all_fit}
use Rattle.up_eval.proofs.arguments.fitting_action.Goals as goal

pub returns-then-args-len-clause-refused : goal.returns-then-args-len-clause-refused
returns-then-args-len-clause-refused c =
    let found : action_named c.args.p.now c.args.step.now.action ≡ Some c.in-Some.action.now = search rules in
    let known : are_known (world c.args.p.now) c.args.step.now.args ≡ true = search rules in
    let differs : length c.args.step.now.args ≢ length c.in-Some.action.now.params = search rules in
    wrong_arity c.args.p.now c.args.step.now c.in-Some.action.now found known differs

pub returns-then-not-are_typed-clause-refused : goal.returns-then-not-are_typed-clause-refused
returns-then-not-are_typed-clause-refused c =
    let found : action_named c.args.p.now c.args.step.now.action ≡ Some c.in-Some.action.now = search rules in
    let known : are_known (world c.args.p.now) c.args.step.now.args ≡ true = search rules in
    let same : length c.args.step.now.args ≡ length c.in-Some.action.now.params = search rules in
    let typed : are_typed (world c.args.p.now) c.args.step.now.args c.in-Some.action.now.params ≡ false = search rules in
    wrong_type c.args.p.now c.args.step.now c.in-Some.action.now found known same typed

pub returns-clause-fits : goal.returns-clause-fits
returns-clause-fits c =
    let found : action_named c.args.p.now c.args.step.now.action ≡ Some c.in-Some.action.now = search rules in
    let known : are_known (world c.args.p.now) c.args.step.now.args ≡ true = search rules in
    let same : length c.args.step.now.args ≡ length c.in-Some.action.now.params = search rules in
    let typed : are_typed (world c.args.p.now) c.args.step.now.args c.in-Some.action.now.params ≡ true = search rules in
    all_fit c.args.p.now c.args.step.now c.in-Some.action.now found known same typed
