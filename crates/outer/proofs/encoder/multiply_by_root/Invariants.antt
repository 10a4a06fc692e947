-- The coefficients so far are written, the others are as they were, and the last that was overwritten is at hand.
use Rattle.std.proofs.Common.{◌≡◌, ℕ, ◌<◌, ◌≤◌, ◌∷◌, length}
use lib.Bits.{bit_xor}
use Rattle.outer.specs.Lanes.{lane}
use Rattle.outer.proofs.encoder.multiply_by_root.Given as goal

abbrev pub invariant-loop-coefficient : goal.invariant-loop-coefficient
invariant-loop-coefficient g s =
    let lower = s.initial.lower in
    let i = s.coefficient-index in
    (length s.lower ≡ 32) × (s.last ≡ lane (1 ∷ lower) i)
    × ((k : ℕ) → k < i → lane s.lower k ≡ bit_xor (lane lower k) ((g.F.Field.meaning s.field).mul s.a (lane (1 ∷ lower) k)))
    × ((k : ℕ) → i ≤ k → lane s.lower k ≡ lane lower k)
