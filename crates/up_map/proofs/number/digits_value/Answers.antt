use Rattle.std.proofs.Common.{◌≡◌, ◌-◌, ◌^◌, ◌<◌, get_or, sym, ◌∙◌, arith}
use Rattle.std.proofs.lemmas.Bool.Decides.{nat_tests}
use Rattle.up_map.proofs.Digits.{digit_read, other_read, large_read, all_read}
use Rattle.up_map.proofs.number.digits_value.Goals as goal

pub returns-then-not-is_ascii_digit : goal.returns-then-not-is_ascii_digit
returns-then-not-is_ascii_digit c =
    other_read c.args.digits.now c.loop-byte.byte-index c.loop-byte.value c.loop-byte-test.true (sym c.if-not-is_ascii_digit.ensures.value) c.loop-byte.invariant.so_far

pub returns-in_err-checked_mul : goal.returns-in_err-checked_mul
returns-in_err-checked_mul c =
    c.from_residual.ensures
    ∙ large_read c.args.digits.now c.loop-byte.byte-index c.loop-byte.value c.loop-byte-test.true (omega (arith, c.in_err-checked_mul.ensures)) c.loop-byte.invariant.so_far

pub returns-in_err-value : goal.returns-in_err-value
returns-in_err-value c =
    let digit : get_or c.args.digits.now c.loop-byte.byte-index 0 - 48 ≡ c.from.result = grind (arith, nat_tests) in
    c.from_residual-in_err-value.ensures
    ∙ large_read c.args.digits.now c.loop-byte.byte-index c.loop-byte.value c.loop-byte-test.true
    (omega (arith, digit, c.in_err-value.ensures, c.in_ok-checked_mul.ensures.1)) c.loop-byte.invariant.so_far

pub loop-byte-preserved : goal.loop-byte-preserved
loop-byte-preserved c =
    let digit : get_or c.args.digits.now c.loop-byte.byte-index 0 - 48 ≡ c.from.result = grind (arith, nat_tests) in
    let small : c.in_ok-value.value < 2 ^ 64 = omega (arith, c.in_ok-value.ensures.0, c.in_ok-value.ensures.1) in
    record {
      so_far = digit_read c.args.digits.now c.loop-byte.byte-index c.loop-byte.value c.in_ok-value.value c.loop-byte-test.true
          (sym c.if-not-is_ascii_digit.ensures.value) (omega (arith, digit, c.in_ok-value.ensures.1, c.in_ok-checked_mul.ensures.1)) small c.loop-byte.invariant.so_far;
      small = small;
    }

pub returns : goal.returns
returns c = all_read c.args.digits.now c.loop-byte.byte-index c.loop-byte.value c.loop-byte-test.false c.loop-byte.invariant.so_far
