use Rattle.std.proofs.Common.{arith}
use Rattle.limits.proofs.Within.{sound, coded_high}
use Rattle.plan.proofs.plan.Plan.coded_length.Goals as goal

pub overflow_mul-result : goal.overflow_mul-result
overflow_mul-result c = omega (arith, (sound c.args.self.now.numbers c.args.self.now.within).code.room)

pub overflow_add-result : goal.overflow_add-result
overflow_add-result c = omega (arith, (sound c.args.self.now.numbers c.args.self.now.within).code.room)

pub overflow_mul-result-2 : goal.overflow_mul-result-2
overflow_mul-result-2 c = omega (arith, coded_high c.args.self.now.numbers (sound c.args.self.now.numbers c.args.self.now.within))
