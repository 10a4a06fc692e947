use Rattle.std.proofs.Common.{sym, arith}
use Rattle.limits.proofs.Within.{sound}
use Rattle.plan.proofs.plan.Plan.air_length.Goals as goal

pub overflow_mul-result : goal.overflow_mul-result
overflow_mul-result c = omega (arith, ((sound c.args.self.now.numbers c.args.self.now.within).line (sym c.if-is_bare.ensures)).air)
