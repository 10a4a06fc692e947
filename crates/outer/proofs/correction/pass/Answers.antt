-- Each lane moves on, and takes its multiple of itself.
use Rattle.std.proofs.Common.{◌∙◌, ap₂, arith}
use lib.Bits.{bit_xor}
use Rattle.std.proofs.lemmas.Simd.{get_or-zip2}
use Rattle.outer.proofs.ErrorValues.{moved_lane}
use Rattle.outer.proofs.correction.pass.Goals as goal

pub returns : goal.returns
returns c f k rule are l h =
    get_or-zip2 bit_xor c.moved.result c.times.result l 0 0 0 (omega arith) (omega arith) ∙ ap₂ bit_xor (moved_lane c.args.sums c.moved.result (omega arith) c.moved.ensures l h) (c.times.ensures f k rule are l h)
