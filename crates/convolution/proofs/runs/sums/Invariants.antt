use Rattle.convolution.proofs.Parity.{Summed}
use Rattle.convolution.proofs.runs.sums.Given as goal

abbrev pub invariant-loop-j : goal.invariant-loop-j
invariant-loop-j l = Summed l.sum l.bits l.generator l.j
