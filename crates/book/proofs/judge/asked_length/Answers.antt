use Rattle.std.proofs.Common.{arith}
use Rattle.limits.proofs.Within.{sound, air_high}
use Rattle.book.proofs.judge.asked_length.Goals as goal

pub overflow_mul-result : goal.overflow_mul-result
overflow_mul-result c =
    let p = c.args.plan.now in
    let e = c.air_length-in-Samples.ensures in
    omega (arith, air_high p.numbers (sound p.numbers p.within))
