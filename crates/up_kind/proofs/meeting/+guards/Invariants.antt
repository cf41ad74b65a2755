use Rattle.std.proofs.Common.{◌≡◌, drop}
use Rattle.std.specs.List.{list_any}
use Rattle.up_kind.specs.Meeting.{is_guarded}
use Rattle.up_kind.proofs.meeting.+guards.Given as goal

abbrev pub invariant-any_guards-loop-member : goal.invariant-any_guards-loop-member
invariant-any_guards-loop-member l =
    list_any (λ f. is_guarded f l.s l.t) l.members ≡ list_any (λ f. is_guarded f l.s l.t) (drop l.member-index l.members)
