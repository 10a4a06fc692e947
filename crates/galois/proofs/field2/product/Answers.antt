-- `product` adds the multiples of a, one for each bit of b.
use Rattle.std.proofs.Common.{◌≡◌, ◌+◌, ◌-◌, ◌*◌, ◌/◌, ◌%◌, ◌^◌, sym, ap, ◌∙◌, arith}
use lib.Bits.{bit_xor, xor_zero_r}
use Rattle.galois.specs.Polynomials.{product_of}
use Rattle.galois.specs.Shifts.{product_more}
use Rattle.galois.proofs.field2.product.Goals as goal

pub loop-i-preserved : goal.loop-i-preserved
loop-i-preserved c =
    let b = c.args.b in
    let i = c.loop-i.i in
    let sum = bit_xor c.loop-i.sum (c.loop-i.x * (b / 2 ^ i % 2)) in (
      c.times_z-x.type_inv,
      ap (λ x. bit_xor sum (product_of (8 - (i + 1)) 0x87 x (b / 2 ^ (i + 1)))) c.times_z-x.ensures
          ∙ product_more 0x87 c.loop-i.sum c.loop-i.x b i (omega arith) ∙ c.loop-i.invariant.1,
    )

pub returns : goal.returns
unfolding product_of
returns c =
    let sum = c.loop-i.sum in
    let none : 0 ≡ 8 - c.loop-i.i = omega arith in
    sym (xor_zero_r sum) ∙ ap (λ n. bit_xor sum (product_of n 0x87 c.loop-i.x (c.args.b / 2 ^ c.loop-i.i))) none ∙ c.loop-i.invariant.1
