use Rattle.std.proofs.Common.{◌^◌, ◌∙◌}
use Rattle.field.proofs.Digits.{digit_refused}
use Rattle.field.proofs.decimal.all_digits.Goals as goal

pub returns-in_err-value : goal.returns-in_err-value
returns-in_err-value c =
    c.from_residual.ensures
    ∙ digit_refused (2 ^ 64) c.loop-digit.value c.args.text.now c.loop-digit.digit-index c.loop-digit-test.true c.in_err-value.ensures
    ∙ c.loop-digit.invariant.1
