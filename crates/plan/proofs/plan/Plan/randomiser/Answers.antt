use Rattle.std.proofs.Common.{◌∙◌, arith}
use Rattle.plan.proofs.Coders.{randomiser_made, randomiser_there}
use Rattle.limits.proofs.Within.{sound, data_low, data_high}
use Rattle.plan.proofs.plan.Plan.randomiser.Goals as goal

pub overflow_cast-self : goal.overflow_cast-self
overflow_cast-self c = omega (arith, (sound c.args.self.now.numbers c.args.self.now.within).stages.seed)

pub overflow_mul-self : goal.overflow_mul-self
overflow_mul-self c = omega (arith, data_high c.args.self.now.numbers (sound c.args.self.now.numbers c.args.self.now.within))

pub returns : goal.returns
returns c =
    let p = c.args.self.now.numbers in
    let s = sound p c.args.self.now.within in
    randomiser_made c.new.result c.new.ensures (record {
      seed_low = omega (arith, c.if-self-eq0.false);
      seed_high = omega (arith, s.stages.seed);
      length_low = data_low p s;
      length_high = omega (arith, data_high p s);
      unit_low = c.args.self.now.unit_low;
      whole = c.args.self.now.whole;
    })
    ∙ randomiser_there p c.args.self.now.unit c.if-self-eq0.false
