-- The product of a byte is the sum of the multiples for its bits.
use Rattle.std.proofs.Common.{◌≡◌, ℕ, ◌%◌, ◌^◌, ◌<◌, cond, eqb, sym, ap, ◌∙◌, ap₂, mod-eq_of_lt, arith}
use lib.Bits.{bit_and, bit_xor}
use lib.ListN.{get_or-replicate}
use Rattle.std.proofs.lemmas.Nat.{one_shl}
use Rattle.std.proofs.lemmas.Simd.{get_or-zip2, Each1-get_or}
use Rattle.outer.specs.Lanes.{lane}
use Rattle.outer.proofs.Bits.{mul_none, mul_more}
use Rattle.outer.proofs.lanes.Multiples.times.Goals as goal

pub loop-i-init : goal.loop-i-init
loop-i-init c f k rule are l h =
    let nought : ℕ = 0 in
    get_or-replicate 32 l nought 0 h ∙ sym (mul_none f (k l) (lane c.args.v l) rule (are.bytes l h))

pub loop-i-preserved : goal.loop-i-preserved
loop-i-preserved c f k rule are l h =
    let i = c.loop-i.i in
    let b = lane c.args.v l in
    let sum = c.loop-i.sum in
    let part = c.chosen-sum.result in
    let known : lane part l ≡ cond (eqb (bit_and b (2 ^ i)) 0) 0 (f.mul (k l) (2 ^ i))
    = c.chosen-sum.ensures l h
    ∙ ap₂ (λ n x. cond (eqb (bit_and b n) 0) 0 x) (one_shl i 8 c.loop-i-test.true) (are.each i l c.loop-i-test.true h) in
    get_or-zip2 bit_xor sum part l 0 0 0 (omega arith) (omega arith)
    ∙ ap₂ bit_xor (c.loop-i.invariant f k rule are l h) known
    ∙ sym (mul_more f (k l) b i rule (are.bytes l h) c.loop-i-test.true)

pub returns : goal.returns
returns c f k rule are l h =
    let end : c.loop-i.i ≡ 8 = omega arith in
    let byte : lane c.args.v l < 256 = (Each1-get_or _ c.args.v l 0 (omega arith) c.fits-v.1).fits in
    c.loop-i.invariant f k rule are l h ∙ ap (f.mul (k l)) (ap (λ n. lane c.args.v l % 2 ^ n) end ∙ mod-eq_of_lt byte)
