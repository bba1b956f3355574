use Rattle.std.proofs.Common.{◌≤◌, arith, rules}
use Rattle.scan.proofs.Tens.{under}
use Rattle.scan.proofs.field.Field.value.Goals as goal

pub overflow_mul-n : goal.overflow_mul-n
overflow_mul-n c =
    let few = c.width.ensures.most in
    let h : c.loop-digit.n ≤ 229999977 = under c.loop-digit.n c.loop-digit.digit-index c.loop-digit.invariant.1 (omega arith) in
    search rules

pub overflow_add-n : goal.overflow_add-n
overflow_add-n c =
    let few = c.width.ensures.most in
    let h : c.loop-digit.n ≤ 229999977 = under c.loop-digit.n c.loop-digit.digit-index c.loop-digit.invariant.1 (omega arith) in
    search rules
