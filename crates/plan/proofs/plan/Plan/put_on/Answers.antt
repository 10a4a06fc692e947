use Rattle.plan.proofs.Calling.{put_planned}
use Rattle.limits.proofs.Within.{sound}
use Rattle.plan.proofs.plan.Plan.put_on.Goals as goal

pub returns : goal.returns
returns g c =
    let p = c.args.self.now.numbers in
    put_planned p c.args.self.now.unit (sound p c.args.self.now.within) c.in-Ok.ensures.1 c.requires.fit c.requires.foot c.args.first.now c.args.second.now c.args.symbols.now
    c.put.result c.put.new.first c.put.new.second c.put.new.symbols c.put.ensures
