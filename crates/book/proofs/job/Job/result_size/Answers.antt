use Rattle.std.proofs.Common.{arith, rules}
use Rattle.limits.proofs.Within.{sound, air_high, body_high}
use Rattle.book.proofs.job.Job.result_size.Goals as goal

pub returns-in-Body-clause-high : goal.returns-in-Body-clause-high
returns-in-Body-clause-high c =
    let p = c.args.self.now.plan in
    omega (arith, c.air_length.ensures, air_high p.numbers (sound p.numbers p.within))

pub returns-in-Block : goal.returns-in-Block
returns-in-Block c =
    let p = c.args.self.now.plan in
    record { value = search rules; high = omega (arith, c.body_length.ensures, body_high p.numbers (sound p.numbers p.within)) }
