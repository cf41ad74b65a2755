use Rattle.std.proofs.Common.{◌≡◌, ◌++◌, map, take}
use Rattle.pddl_lex.specs.Bytes.{fold_byte}
use Rattle.pddl_lex.proofs.token.add_folded.Given as goal

abbrev pub invariant-loop-byte : goal.invariant-loop-byte
invariant-loop-byte l = l.folded ≡ l.initial.folded ++ map fold_byte (take l.byte-index l.bytes)
