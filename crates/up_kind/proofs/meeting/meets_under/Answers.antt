use Rattle.std.proofs.Common.{ap, ◌∙◌}
use Rattle.std.specs.List.{list_any}
use Rattle.indexmap.specs.IndexMap.{get}
use Rattle.up_kind.specs.Keys.{same_ground}
use Rattle.up_kind.specs.Meeting.{meet}
use Rattle.up_kind.proofs.Filed.{under_some}
use Rattle.up_kind.proofs.meeting.meets_under.Goals as goal

pub returns-in-Some : goal.returns-in-Some
returns-in-Some c =
    c.meets_one.ensures ∙ ap (list_any (λ add. meet c.args.tables.now c.args.action.now c.args.delete.now add.now)) c.as_slice.ensures
    ∙ under_some c.args.tables.now c.args.action.now c.args.delete.now (get same_ground c.args.table.now c.args.key.now) c.in-Some.adds.now c.in-Some.ensures.value
