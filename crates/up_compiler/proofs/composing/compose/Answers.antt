use Rattle.std.proofs.Common.{◌≡◌, ◌≤◌, length}
use Rattle.up_compiler.specs.Compose.{composed}
use Rattle.up_compiler.proofs.Composed.{composed_fits, all_composed}
use Rattle.up_compiler.proofs.composing.compose.Goals as goal

pub new-requires-2 : goal.new-requires-2
new-requires-2 c =
    let ends : length c.args.later.now ≤ c.loop-entry.entry-index = rw (c.as_slice-entry-items.ensures, c.entries-second.ensures.same) at c.loop-entry-test.false in
    let all : c.loop-entry.entries ≡ composed c.args.earlier.now c.args.later.now =
    all_composed c.args.earlier.now c.args.later.now c.loop-entry.entries c.loop-entry.entry-index ends c.loop-entry.invariant in
    rw all (composed_fits c.args.earlier.now c.args.later.now c.in_ok-first.ensures.fit c.entries-second.ensures.fit c.requires)
