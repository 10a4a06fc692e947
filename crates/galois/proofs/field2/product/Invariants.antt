-- What each turn of `product` keeps: the sum so far, and what is still to come.
use Rattle.std.proofs.Common.{◌≡◌, ◌-◌, ◌/◌, ◌^◌, ◌<◌}
use lib.Bits.{bit_xor}
use Rattle.galois.specs.Polynomials.{product_of}
use Rattle.galois.proofs.field2.product.Given as goal

abbrev pub invariant-loop-i : goal.invariant-loop-i
invariant-loop-i l = (l.x < 256) × (bit_xor l.sum (product_of (8 - l.i) 0x87 l.x (l.b / 2 ^ l.i)) ≡ product_of 8 0x87 l.a l.b)
