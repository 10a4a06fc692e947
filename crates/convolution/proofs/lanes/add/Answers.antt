-- Sums of numbers below 2^15 fit a lane.
use Rattle.std.proofs.Common.{ℕ, ◌^◌, ◌<◌, arith}
use Rattle.std.proofs.lemmas.Simd.{Each2-of, Each1-from_get_or}
use Rattle.convolution.proofs.lanes.add.Goals as goal

pub overflow_add-result : goal.overflow_add-result
overflow_add-result c =
    let P : ℕ → Type 0 = λ x. x < 2 ^ 15 in
    Each2-of P P _ (λ x y p q. record { fits = omega arith }) c.args.a c.args.b
    (Each1-from_get_or P c.args.a 0 (λ i h. c.requires.0 i (omega (arith, c.fits-a.0))))
    (Each1-from_get_or P c.args.b 0 (λ i h. c.requires.1 i (omega (arith, c.fits-b.0))))
