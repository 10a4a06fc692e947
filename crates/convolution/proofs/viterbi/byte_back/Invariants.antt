-- What the steps back so far have found.
use Rattle.std.proofs.Common.{◌≡◌, ◌-◌, ◌≤◌, take, drop}
use Rattle.convolution.proofs.Backward.{Left}
use Rattle.convolution.proofs.viterbi.byte_back.Given as goal

abbrev pub invariant-loop-k : goal.invariant-loop-k
invariant-loop-k l =
    Left l.decisions l.from l.after l.k-iterator.count l.byte l.state × (l.k-iterator.count ≤ 8) × (l.k-iterator.iter.iter.rest.now ≡ take (8 - l.k-iterator.count) (drop l.from l.decisions))
