use Rattle.std.proofs.Common.{◌≡◌, drop}
use Rattle.pddl_lex.specs.Places.{after_bytes}
use Rattle.pddl_lex.proofs.place.after_bytes.Given as goal

abbrev pub invariant-loop-byte : goal.invariant-loop-byte
invariant-loop-byte l = after_bytes l.behind (drop l.byte-index l.bytes) ≡ after_bytes l.initial.behind l.bytes
