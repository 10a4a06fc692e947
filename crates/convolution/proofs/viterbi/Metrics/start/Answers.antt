-- The costs before the first step.
use Rattle.std.proofs.Common.{refl, arith}
use Rattle.convolution.proofs.Refine.{tracks_start}
use Rattle.convolution.proofs.Spread.{near_start}
use Rattle.convolution.proofs.viterbi.Metrics.start.Goals as goal

pub invariant_of-result : goal.invariant_of-result
invariant_of-result c = record { long = refl; near = near_start; small = omega arith }

pub returns-clause-tracks : goal.returns-clause-tracks
returns-clause-tracks c = tracks_start

pub returns-clause-close : goal.returns-clause-close
returns-clause-close c = record { all = refl; near = near_start; first = omega arith }
