-- What each turn of `raise` keeps: the result so far times the factors still left.
use Rattle.std.proofs.Common.{◌≡◌, ◌<◌}
use Rattle.galois.specs.Bytes.{raised}
use Rattle.galois.specs.Polynomials.{product_of}
use Rattle.galois.proofs.field2.raise.Given as goal

abbrev pub invariant-loop-left : goal.invariant-loop-left
invariant-loop-left l =
    (l.result < 256) × (l.x < 256)
    × (product_of 8 0x87 l.result (raised (product_of 8 0x87) l.x l.left) ≡ raised (product_of 8 0x87) l.a l.n)

abbrev pub decreases-loop-left : goal.decreases-loop-left
decreases-loop-left l = l.left
