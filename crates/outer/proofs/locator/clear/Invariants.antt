-- The polynomials from b to c have come forward, cleared, and the others are as they were.
use Rattle.std.proofs.Common.{◌≡◌, ℕ, ◌+◌, ◌<◌, ◌≤◌, List, length}
use Rattle.outer.specs.Lanes.{Are}
use Rattle.outer.specs.Cutting.{from, polynomial, Scales, Sum, factor}
use Rattle.outer.proofs.locator.clear.Given as goal

abbrev pub invariant-loop-c : goal.invariant-loop-c
invariant-loop-c g l =
    (length l.polynomials ≡ length l.initial.polynomials) × ((k : ℕ) → k < l.b → polynomial l.polynomials k ≡ polynomial l.initial.polynomials k)
    × ((k : ℕ) → l.c ≤ k → polynomial l.polynomials k ≡ polynomial l.initial.polynomials k)
    × ((s : List ℕ) (j : ℕ) → Scales (g.F.Field.meaning l.field) l.scales → Are (g.F.Field.meaning l.field) (from s j) l.equation.rows → (k : ℕ) → k < l.c → l.b ≤ k
    → Sum (g.F.Field.meaning l.field) (factor (g.F.Field.meaning l.field) s j (polynomial l.initial.polynomials l.b) (polynomial l.initial.polynomials (k + 1)))
    (polynomial l.initial.polynomials l.b) (polynomial l.initial.polynomials (k + 1)) (polynomial l.polynomials k))
