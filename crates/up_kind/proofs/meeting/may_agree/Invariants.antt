use Rattle.std.proofs.Common.{◌≡◌, drop}
use Rattle.up_kind.specs.Meeting.{may_agree}
use Rattle.up_kind.proofs.meeting.may_agree.Given as goal

abbrev pub invariant-loop-s : goal.invariant-loop-s
invariant-loop-s l =
    may_agree l.tables l.action l.delete l.add l.ss l.ts ≡ may_agree l.tables l.action l.delete l.add (drop l.s-index l.ss) l.rest
