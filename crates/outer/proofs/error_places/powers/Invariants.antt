-- The lanes so far are written, and the power for the next is at hand.
use Rattle.std.proofs.Common.{◌≡◌, ℕ, ◌*◌, ◌<◌, length}
use Rattle.galois.specs.Bytes.{power}
use Rattle.outer.specs.Lanes.{lane}
use Rattle.outer.proofs.error_places.powers.Given as goal

abbrev pub invariant-loop-power : goal.invariant-loop-power
invariant-loop-power g s =
    let f = g.F.Field.meaning s.field in
    (length s.power-items ≡ 32) × (s.next ≡ power f (s.m * s.power-index)) × ((k : ℕ) → k < s.power-index → lane s.power-items k ≡ power f (s.m * k))
