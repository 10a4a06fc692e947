-- One step more follows the rule.
use Rattle.std.proofs.Common.{arith}
use Rattle.convolution.proofs.Refine.{ran_more}
use Rattle.convolution.proofs.viterbi.Metrics.run.Goals as goal

pub loop-t-preserved : goal.loop-t-preserved
loop-t-preserved c =
    let (less, h) = c.advance-next.ensures in
    ran_more c.args.generators.now.rate c.args.costs.now c.loop-t.t c.args.self.now c.loop-t.metrics c.advance-next.result.0 c.loop-t.decisions less c.advance-next.result.1
    c.loop-t-test.true (omega arith) c.loop-t.invariant h
