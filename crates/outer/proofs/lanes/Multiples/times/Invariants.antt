-- After i rows the sum is the product of the lowest i bits.
use Rattle.outer.specs.Lanes.{Times}
use Rattle.outer.proofs.Bits.{low}
use Rattle.outer.proofs.lanes.Multiples.times.Given as goal

abbrev pub invariant-loop-i : goal.invariant-loop-i
invariant-loop-i l = Times l.self.rows (low l.v l.i) l.sum
