use Rattle.std.proofs.Common.{◌≤◌, ◌<◌, get_or, arith}
use Rattle.etc_manifest.proofs.ModeLemmas.{digit_at, few_digits, highest_digit, left_more, low_value, max_of_four, small_more, value_more}
use Rattle.etc_manifest.proofs.mode.octal_value.Goals as goal

pub overflow_mul-value : goal.overflow_mul-value
overflow_mul-value c =
    let few : c.loop-digit.digit-index < 4 = omega (arith, c.loop-digit-test.true, few_digits c.args.digits.now c.requires) in
    omega (arith, low_value c.loop-digit.value c.loop-digit.digit-index few c.loop-digit.invariant.small)

pub overflow_add-value : goal.overflow_add-value
overflow_add-value c =
    let few : c.loop-digit.digit-index < 4 = omega (arith, c.loop-digit-test.true, few_digits c.args.digits.now c.requires) in
    let high = highest_digit (get_or c.args.digits.now c.loop-digit.digit-index 0) (digit_at c.args.digits.now c.loop-digit.digit-index c.loop-digit-test.true c.loop-digit.invariant.left) in
    omega (arith, low_value c.loop-digit.value c.loop-digit.digit-index few c.loop-digit.invariant.small, c.from.ensures, high)

pub loop-digit-preserved : goal.loop-digit-preserved
loop-digit-preserved c =
    let digits = c.args.digits.now in
    let at = c.loop-digit.digit-index in
    let so_far = c.loop-digit.invariant in
    record {
      value = value_more digits at c.loop-digit.value c.from.result c.loop-digit-test.true so_far.left c.from.ensures so_far.value;
      small = small_more digits at c.loop-digit.value c.from.result c.loop-digit-test.true so_far.left c.from.ensures so_far.small;
      left = left_more digits at c.loop-digit.value c.from.result c.loop-digit-test.true so_far.left c.from.ensures;
    }

pub returns-clause-bits : goal.returns-clause-bits
returns-clause-bits c =
    let few : c.loop-digit.digit-index ≤ 4 = omega (arith, c.loop-digit.auto.digit-index-end, few_digits c.args.digits.now c.requires) in
    omega (arith, c.loop-digit.invariant.small, max_of_four c.loop-digit.digit-index few)
