use Rattle.std.proofs.Common.{◌*◌, ◌^◌, ◌≤◌, arith, rules}
use Rattle.scan.proofs.Digits.{too_large}
use Rattle.scan.proofs.number.number.Goals as goal

pub returns-in_err-checked_mul-clause-none : goal.returns-in_err-checked_mul-clause-none
returns-in_err-checked_mul-clause-none c =
    let past : 2 ^ 32 ≤ c.loop-digit.n * 10 = search rules in
    let large = too_large c.args.word.now c.loop-digit.digit-index c.loop-digit-test.true c.loop-digit.n (omega (arith, past)) c.loop-digit.invariant.0 in
    search rules

pub returns-in_err-n-clause-none : goal.returns-in_err-n-clause-none
returns-in_err-n-clause-none c =
    let large = too_large c.args.word.now c.loop-digit.digit-index c.loop-digit-test.true c.loop-digit.n (search rules) c.loop-digit.invariant.0 in
    search rules
