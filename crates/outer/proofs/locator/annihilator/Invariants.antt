-- After j equations the polynomials that are left meet them, and the multiples are those of the next.
use Rattle.std.proofs.Common.{length}
use Rattle.outer.specs.Lanes.{Are}
use Rattle.outer.specs.Cutting.{from, Cut}
use Rattle.outer.proofs.locator.annihilator.Given as goal

abbrev pub invariant-loop-j : goal.invariant-loop-j
invariant-loop-j g l =
    let f = g.F.Field.meaning l.field in
    Cut f l.e l.syndromes l._j (length l.polynomials.items) l.polynomials.items × Are f (from l.syndromes l._j) l.equation.rows
