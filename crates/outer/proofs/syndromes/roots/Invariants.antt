-- The lanes so far are written, and the root of the next is at hand.
use Rattle.std.proofs.Common.{◌≡◌, ℕ, ◌<◌, length}
use Rattle.outer.specs.Lanes.{lane, root}
use Rattle.outer.proofs.syndromes.roots.Given as goal

abbrev pub invariant-loop-root : goal.invariant-loop-root
invariant-loop-root g s =
    let f = g.F.Field.meaning s.field in
    (length s.root-items ≡ 32) × (s.next ≡ root f s.r s.root-index) × ((k : ℕ) → k < s.root-index → lane s.root-items k ≡ root f s.r k)
