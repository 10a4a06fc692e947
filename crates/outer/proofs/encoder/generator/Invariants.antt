-- After j roots the lanes hold the generator of j roots.
use Rattle.std.proofs.Common.{◌≡◌, ℕ, ◌<◌}
use Rattle.outer.specs.Lanes.{lane}
use Rattle.outer.specs.Encoder.{coefficient}
use Rattle.outer.proofs.encoder.generator.Given as goal

abbrev pub invariant-loop-j : goal.invariant-loop-j
invariant-loop-j g s = (l : ℕ) → l < 32 → lane s.lower l ≡ coefficient (g.F.Field.meaning s.field) s.r s.j l
