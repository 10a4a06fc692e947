-- A lane under a mask is the whole swing or nothing.
use Rattle.std.proofs.Common.{ℕ, ◌+◌, ◌-◌, ◌*◌, ◌%◌, get_or, replicate, sym, ap, ◌∙◌, arith}
use lib.Bits.{bit_and}
use lib.ListN.{length-replicate, get_or-replicate}
use Rattle.std.proofs.lemmas.Simd.{get_or-zip2, length-zip2}
use Rattle.convolution.specs.Code.{mark}
use Rattle.convolution.proofs.Pricing.{masked_swing}
use Rattle.convolution.proofs.lanes.swing.Goals as goal

pub returns : goal.returns
returns c =
    let z = c.args.costs.zero in
    let o = c.args.costs.one in
    let mask = c.args.mask in
    let k : ℕ = (o + (65536 - z)) % 65536 in
    let lm = c.fits-mask.0 in
    let lk = length-replicate 32 k in
    record {
      long = length-zip2 bit_and mask (replicate 32 k) (lm ∙ sym lk) ∙ lm;
      each = λ m s h is.
          let e = get_or-zip2 bit_and mask (replicate 32 k) s 0 0 0 (omega arith) (omega arith)
          ∙ ap (bit_and (get_or mask s 0)) (get_or-replicate 32 s k 0 h) ∙ ap (λ v. bit_and v k) (is s h) in
          ap (λ v. (v + z) % 65536) e ∙ masked_swing (mark m (2 * s)) z o (omega arith) (omega arith) (omega arith);
    }
