-- The bytes written so far, from the last on, are those that the way back gives.
use Rattle.std.proofs.Common.{◌≡◌, ◌+◌, ◌*◌, ◌<◌, ◌++◌, reverse, length, drop}
use Rattle.convolution.specs.Code.{all_bits}
use Rattle.convolution.specs.Trellis.{back}
use Rattle.convolution.proofs.viterbi.traceback.Given as goal

abbrev pub invariant-loop-i : goal.invariant-loop-i
invariant-loop-i l = (l.state < 64) × (reverse (back l.decisions (8 * length l.body + 6) 0) ≡ reverse (back l.decisions (8 * l.i + 6) l.state) ++ all_bits (drop l.i l.body))
