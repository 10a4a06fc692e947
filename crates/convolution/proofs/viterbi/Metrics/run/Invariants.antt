-- What the steps so far have done.
use Rattle.convolution.specs.Slots.{Ran}
use Rattle.convolution.proofs.viterbi.Metrics.run.Given as goal

abbrev pub invariant-loop-t : goal.invariant-loop-t
invariant-loop-t l = Ran l.generators.rate l.costs l.t l.initial.self l.metrics l.decisions
