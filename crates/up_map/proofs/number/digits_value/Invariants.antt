use Rattle.std.proofs.Common.{◌^◌, ◌<◌}
use Rattle.up_map.proofs.Digits.{IsRead}
use Rattle.up_map.proofs.number.digits_value.Given as goal

abbrev pub invariant-loop-byte : goal.invariant-loop-byte
invariant-loop-byte l = record {
  so_far : IsRead l.digits l.byte-index l.value;
  small : l.value < 2 ^ 64;
}
