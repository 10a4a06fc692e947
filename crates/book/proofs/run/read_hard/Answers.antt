use Rattle.std.proofs.Common.{arith}
use Rattle.limits.proofs.Within.{sound, air_high}
use Rattle.book.proofs.run.read_hard.Goals as goal

pub fill_hard-requires : goal.fill_hard-requires
fill_hard-requires c =
    let p = c.args.plan.now in
    (omega (arith, c.requires.line.1, c.requires.marks), omega (arith, c.requires.line.1, air_high p.numbers (sound p.numbers p.within)))
