use Rattle.std.proofs.Common.{arith}
use Rattle.limits.proofs.Within.{sound, air_high, body_high}
use Rattle.book.proofs.job.Job.needs.Goals as goal

pub returns-in-Body-clause-high : goal.returns-in-Body-clause-high
returns-in-Body-clause-high c =
    let p = c.args.self.now.plan in
    omega (arith, c.air_length-air.ensures, air_high p.numbers (sound p.numbers p.within))

pub returns-in-Block-clause-high : goal.returns-in-Block-clause-high
returns-in-Block-clause-high c =
    let p = c.args.self.now.plan in
    omega (arith, c.body_length-body.ensures, body_high p.numbers (sound p.numbers p.within))

pub returns-in-Soft-clause-high : goal.returns-in-Soft-clause-high
returns-in-Soft-clause-high c =
    let p = c.args.self.now.plan in
    omega (arith, c.body_length-body.ensures, body_high p.numbers (sound p.numbers p.within))
