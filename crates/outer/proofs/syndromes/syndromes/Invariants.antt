-- The lanes hold the syndromes of the bytes so far.
use Rattle.std.proofs.Common.{take}
use Rattle.outer.specs.Syndromes.{Syndromes}
use Rattle.outer.proofs.syndromes.syndromes.Given as goal

abbrev pub invariant-loop-b : goal.invariant-loop-b
invariant-loop-b s = Syndromes s.roots.rows (take s.b-index s.word) s.sums
