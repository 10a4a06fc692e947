use Rattle.std.proofs.Common.{arith}
use Rattle.limits.proofs.Within.{sound, coded_high}
use Rattle.plan.proofs.plan.Plan.step_need.Goals as goal

pub overflow_mul-result : goal.overflow_mul-result
overflow_mul-result c =
    let e = c.coded_length.ensures in
    omega (arith, coded_high c.args.self.now.numbers (sound c.args.self.now.numbers c.args.self.now.within))

pub overflow_add-result : goal.overflow_add-result
overflow_add-result c =
    let e = c.coded_length.ensures in
    omega (arith, coded_high c.args.self.now.numbers (sound c.args.self.now.numbers c.args.self.now.within))
