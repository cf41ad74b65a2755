use Rattle.std.proofs.Common.{rules, ◌≡◌, true, Some, sym, ◌∙◌}
use Rattle.up_tree.specs.Objects.{world, named, is_below}
use Rattle.up_eval.proofs.Indexing.{of_first}
use Rattle.up_eval.proofs.arguments.is_object_of.Goals as goal

pub returns-then-is_below : goal.returns-then-is_below
returns-then-is_below c =
    let found : named c.args.p.now.objects c.args.name.now ≡ Some c.in-Some.object.now = search rules in
    let is : c.is_below.result ≡ true = search rules in
    let below : is_below (world c.args.p.now) c.in-Some.object.now.of c.args.of.now ≡ true = sym c.is_below.ensures ∙ is in
    is ∙ sym (of_first (world c.args.p.now) c.args.of.now c.args.name.now c.args.p.now.objects c.in-Some.object.now found below)
