-- The sum of the lanes is the polynomial applied.
use Rattle.std.proofs.Common.{◌<◌, ◌∙◌, arith}
use Rattle.outer.specs.Lanes.{lane}
use Rattle.outer.specs.Cutting.{from}
use Rattle.outer.proofs.Cuts.{fold_applied, vector_fits}
use Rattle.outer.proofs.locator.applied_to.Goals as goal

pub returns : goal.returns
returns c f s j rule are =
    let p = c.args.polynomial in
    let small = (vector_fits p c.fits-polynomial).small in
    fold_applied f c.times.result p s j (omega arith)
    (λ l h. let few : l < 32 = omega arith in c.times.ensures f (from s j) rule are l few ∙ rule.mul_comm (from s j l) (lane p l) (are.bytes l few) (small l))
