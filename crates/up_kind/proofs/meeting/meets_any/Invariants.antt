use Rattle.std.proofs.Common.{◌≡◌, drop}
use Rattle.std.specs.List.{list_any}
use Rattle.up_kind.specs.Meeting.{meet, has_meeting_rows}
use Rattle.up_kind.proofs.meeting.meets_any.Given as goal

abbrev pub invariant-loop-delete : goal.invariant-loop-delete
invariant-loop-delete l =
    has_meeting_rows l.tables l.action ≡ list_any (λ d. list_any (meet l.tables l.action d) l.action.rows) (drop l.delete-index l.action.rows)
