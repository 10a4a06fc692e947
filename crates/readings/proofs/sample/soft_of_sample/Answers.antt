-- The code's reading is the sample's soft reading.
use Rattle.std.proofs.Common.{w16, SFits}
use Rattle.std.proofs.lemmas.Int.{to_z-of_z}
use Rattle.readings.proofs.Sixteenths.{sampled, below_zero, from_zero}
use Rattle.readings.proofs.sample.soft_of_sample.Goals as goal

pub returns-then-sample-lt0 : goal.returns-then-sample-lt0
returns-then-sample-lt0 c =
    let f : SFits w16 c.args.sample = c.ranges.sample in
    sampled c.args.sample _ (below_zero c.args.sample (simp to_z-of_z at c.unsigned_abs.ensures.value) c.min-size.ensures (simp to_z-of_z at c.if-sample-lt0.true))

pub returns-else-sample-lt0 : goal.returns-else-sample-lt0
returns-else-sample-lt0 c =
    let f : SFits w16 c.args.sample = c.ranges.sample in
    sampled c.args.sample _ (from_zero c.args.sample (simp to_z-of_z at c.unsigned_abs.ensures.value) c.min-size.ensures (simp to_z-of_z at c.if-sample-lt0.false))
