-- The costs of one step more.
use Rattle.std.proofs.Common.{◌+◌, length, arith}
use Rattle.convolution.proofs.Pattern.{marks_before_mono, steps_marks}
use Rattle.line.proofs.reading.Received.fill_costs.Goals as goal

pub overflow_add-from : goal.overflow_add-from
overflow_add-from g c = omega (arith, steps_marks c.args.self.now.rate (c.args.from + length c.args.costs.now), c.args.self.now.rule.grid.small, c.requires)

pub mark_count-next-requires : goal.mark_count-next-requires
mark_count-next-requires g c = omega (arith, steps_marks c.args.self.now.rate (c.args.from + length c.args.costs.now), c.args.self.now.rule.grid.small, c.requires)

pub step_costs-after-requires : goal.step_costs-after-requires
step_costs-after-requires g c = record {
  at = c.loop-k.invariant.0;
  inside = omega (arith, c.requires, marks_before_mono c.args.self.now.rate (c.args.from + c.loop-k.k + 1) (c.args.from + length c.args.costs.now) (omega arith));
}
