use Rattle.std.proofs.Common.{arith}
use Rattle.limits.proofs.Within.{sound, data_high}
use Rattle.plan.proofs.plan.Plan.body_length.Goals as goal

pub overflow_mul-result : goal.overflow_mul-result
overflow_mul-result c = omega (arith, data_high c.args.self.now.numbers (sound c.args.self.now.numbers c.args.self.now.within))

pub overflow_sub-result : goal.overflow_sub-result
overflow_sub-result c = omega (arith, (sound c.args.self.now.numbers c.args.self.now.within).stages.body)
