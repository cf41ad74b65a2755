use Rattle.std.proofs.Common.{◌≡◌, ◌-◌, length, get_or, slice_get, Some, None, true, false, not, sym, ap, ◌∙◌, arith}
use Rattle.std.proofs.lemmas.Grind.{common_steps}
use Rattle.up_declare.specs.Types.{parent_in}
use Rattle.up_declare.proofs.Marking.{climbed_left, climbed_marked, climbed_unlisted, climbed_all}
use Rattle.up_declare.proofs.types.reaches.Goals as goal

pub returns-in-None : goal.returns-in-None
returns-in-None c =
    let none : parent_in c.args.types.now.entries c.up.here.now ≡ None = grind (arith, common_steps) in
    λ marked. sym (climbed_unlisted c.args.types.now.entries (length c.args.types.now.entries - c.up.left) c.args.name.now c.up.here.now none c.up.invariant.climbed)

pub returns-then-is_marked : goal.returns-then-is_marked
returns-then-is_marked c =
    let there : slice_get c.args.types.now.entries c.in-Some.at ≡ Some (c.in-Some.field-0-1.now, c.in-Some.parent.now) = grind (arith, common_steps) in
    let is : parent_in c.args.types.now.entries c.up.here.now ≡ Some c.in-Some.parent.now = grind (arith, common_steps) in
    let on : get_or c.args.marks.now c.in-Some.at false ≡ true = grind (arith, common_steps) in
    λ marked. sym (climbed_marked c.args.types.now.entries c.args.marks.now (length c.args.types.now.entries - c.up.left) c.in-Some.at c.args.name.now
    c.up.here.now c.in-Some.field-0-1.now c.in-Some.parent.now marked there is on c.up.invariant.climbed)

pub up-preserved : goal.up-preserved
up-preserved c =
    let is : parent_in c.args.types.now.entries c.up.here.now ≡ Some c.in-Some.parent.now = grind (arith, common_steps) in
    record {
      within = omega (c.up.invariant.within, arith);
      climbed = climbed_left c.args.types.now.entries c.up.left c.args.name.now c.up.here.now c.in-Some.parent.now c.up.invariant.within
          (omega (c.up-test.true, arith)) c.up.invariant.climbed is;
    }

pub returns : goal.returns
returns c =
    λ marked. ap not c.contains_key.ensures
    ∙ sym (climbed_all c.args.types.now.entries (length c.args.types.now.entries - c.up.left) c.args.name.now c.up.here.now
    (omega (c.up.invariant.within, c.up-test.false, arith)) c.up.invariant.climbed)
