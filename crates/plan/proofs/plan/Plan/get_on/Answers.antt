use Rattle.plan.proofs.Calling.{get_planned}
use Rattle.limits.proofs.Within.{sound}
use Rattle.plan.proofs.plan.Plan.get_on.Goals as goal

pub returns : goal.returns
returns g c =
    let p = c.args.self.now.numbers in
    get_planned p c.args.self.now.unit (sound p c.args.self.now.within) c.in-Ok.ensures.1 c.requires.fit c.requires.foot c.args.first.now c.args.second.now c.args.steps.now c.args.readings.now
    c.get.result c.get.new.first c.get.new.second c.get.new.steps c.get.ensures
