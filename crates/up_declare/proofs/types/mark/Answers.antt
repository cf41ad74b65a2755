use Rattle.std.proofs.Common.{◌≡◌, slice_get, Some, arith}
use Rattle.std.proofs.lemmas.Grind.{common_steps}
use Rattle.up_declare.specs.Types.{parent_in}
use Rattle.up_declare.proofs.Marking.{marked_here, parent_reaches}
use Rattle.up_declare.proofs.types.mark.Goals as goal

pub up-preserved : goal.up-preserved
up-preserved c =
    let there : slice_get c.args.types.now.entries c.in-Some.at ≡ Some (c.in-Some.field-0-1.now, c.in-Some.parent.now) = grind (arith, common_steps) in
    let is : parent_in c.args.types.now.entries c.up.here.now ≡ Some c.in-Some.parent.now = grind (arith, common_steps) in
    record {
      marked = λ old reaching. marked_here c.args.types.now.entries c.up.marks.items c.set_mark.new.marks.items c.in-Some.at c.up.here.now
          c.in-Some.field-0-1.now c.in-Some.parent.now (c.up.invariant.marked old reaching) (c.up.invariant.here reaching) there is c.set_mark.ensures;
      here = λ reaching. parent_reaches c.args.types.now.entries c.up.here.now c.in-Some.parent.now is (c.up.invariant.here reaching);
    }
