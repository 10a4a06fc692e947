use Rattle.std.proofs.Common.{arith}
use Rattle.std.proofs.Math.Nat.{mod_self}
use Rattle.limits.proofs.Within.{sound, none_out, none_judged, data_low, data_high}
use Rattle.plan.proofs.plan.Plan.new.Goals as goal

pub overflow_mul-result : goal.overflow_mul-result
overflow_mul-result c = omega (arith, data_high c.args.numbers (sound c.args.numbers (none_out c.args.numbers (none_judged _ c.in_ok-first_wrong.ensures))))

pub invariant_of-result : goal.invariant_of-result
invariant_of-result c =
    let ok = none_out c.args.numbers (none_judged _ c.in_ok-first_wrong.ensures) in
    record { within = ok; unit_low = data_low c.args.numbers (sound c.args.numbers ok); whole = mod_self _ }
