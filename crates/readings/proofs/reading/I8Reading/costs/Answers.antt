-- What a soft reading costs.
use Rattle.std.proofs.Common.{◌≡◌, nat_abs, w8, SFits, rules}
use Rattle.std.proofs.lemmas.Int.{to_z-of_z}
use Rattle.readings.specs.Costs.{above_costs, below_costs}
use Rattle.readings.proofs.reading.I8Reading.costs.Goals as goal

pub returns-then-self-gt0-clause-marks : goal.returns-then-self-gt0-clause-marks
returns-then-self-gt0-clause-marks c =
    let f : SFits w8 c.args.self.now = search rules in
    let size : c.unsigned_abs-size.result ≡ nat_abs c.args.self.now = simp to_z-of_z at c.unsigned_abs-size.ensures.value in
    above_costs c.args.self.now c.unsigned_abs-size.result size c.unsigned_abs-size.ensures.bound (simp to_z-of_z at c.if-self-gt0.true)

pub returns-else-self-gt0-clause-marks : goal.returns-else-self-gt0-clause-marks
returns-else-self-gt0-clause-marks c =
    let f : SFits w8 c.args.self.now = search rules in
    let size : c.unsigned_abs-size.result ≡ nat_abs c.args.self.now = simp to_z-of_z at c.unsigned_abs-size.ensures.value in
    below_costs c.args.self.now c.unsigned_abs-size.result size c.unsigned_abs-size.ensures.bound (simp to_z-of_z at c.if-self-gt0.false)
