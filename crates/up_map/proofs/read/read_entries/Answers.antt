use Rattle.std.proofs.Common.{◌≡◌, ◌<◌, false, length, codes, bytes_eq, option_copied, ap, arith}
use Rattle.std.proofs.lemmas.Grind.{common_steps}
use Rattle.up_map.proofs.Gathering.{EntriesSo, Line, line_there, entry_more}
use Rattle.up_map.proofs.read.read_entries.Goals as goal

pub reading-preserved : goal.reading-preserved
reading-preserved c =
    let other : bytes_eq c.cut_at.result.front.now (codes "end") ≡ false = grind (arith, common_steps) in
    let line : Line c.reading.rest.now c.cut_at.result.front.now c.in-Some.behind.now =
    line_there c.reading.rest.now c.cut_at.result.front.now c.in-Some.behind.now (option_copied c.cut_at.result.behind) c.cut_at.ensures.pieces (ap option_copied c.in-Some.is) in
    let shorter : length c.in-Some.behind.now < length c.reading.rest.now = rw c.in-Some.is at c.cut_at.ensures.shorter in
    let so_far : EntriesSo c.args.text.now c.reading.number c.reading.entries c.reading.actions c.reading.rest.now =
    record { same = c.reading.invariant.same; named = c.reading.invariant.named; counted = c.reading.invariant.counted } in
    let more = entry_more c.args.text.now c.reading.rest.now c.cut_at.result.front.now c.in-Some.behind.now c.reading.number c.reading.entries c.push.new.self
    c.reading.actions c.read_new_entry.new.actions c.in-Ok.entry so_far line other c.in-Ok.ensures.read c.in-Ok-push.ensures.ok c.in-Ok.ensures.actions shorter in
    record { same = more.same; named = more.named; counted = more.counted }
