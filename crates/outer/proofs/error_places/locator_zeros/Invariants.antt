-- The places so far, and the terms at the next.
use Rattle.std.proofs.Common.{◌≡◌, ℕ, ◌-◌, ◌<◌, ◌≤◌, length, filter}
use Rattle.std.specs.List.{range_with_len}
use Rattle.outer.specs.Lanes.{lane}
use Rattle.outer.specs.Decoding.{is_located}
use Rattle.outer.proofs.Terms.{term}
use Rattle.outer.proofs.error_places.locator_zeros.Given as goal

abbrev pub invariant-loop-p : goal.invariant-loop-p
invariant-loop-p g s =
    let f = g.F.Field.meaning s.field in
    let zs = filter (is_located f s.n s.polynomial) (range_with_len 0 s.p) in
    (length zs ≤ 16 → s.places ≡ zs)
    × (s.p < s.n → (l : ℕ) → l < 32 → lane s.terms l ≡ term f (g.met.F.Field.rule s.field) s.polynomial (s.n - 1 - s.p) l)
