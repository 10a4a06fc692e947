-- Each lane moves on, and takes its multiple of the feedback.
use Rattle.std.proofs.Common.{ap, ◌∙◌, ap₂, arith}
use lib.Bits.{bit_xor}
use lib.ListN.{get_or-replicate}
use Rattle.std.proofs.lemmas.Simd.{get_or-zip2}
use Rattle.outer.specs.Lanes.{lane}
use Rattle.outer.proofs.ErrorValues.{moved_lane}
use Rattle.outer.proofs.encoder.advance.Goals as goal

pub returns : goal.returns
returns c f k rule are l h =
    let s = c.args.checks in
    let feedback = bit_xor (lane s 0) c.args.byte in
    get_or-zip2 bit_xor c.moved.result c.times.result l 0 0 0 (omega arith) (omega arith)
    ∙ ap₂ bit_xor (moved_lane s c.moved.result (omega arith) c.moved.ensures l h) (c.times.ensures f k rule are l h ∙ ap (f.mul (k l)) (get_or-replicate 32 l feedback 0 h))
