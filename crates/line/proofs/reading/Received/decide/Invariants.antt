-- The decisions of the steps so far.
use Rattle.std.proofs.Common.{◌≡◌, ℕ, ◌<◌, length, get_or}
use Rattle.convolution.specs.Cost.{step_cost}
use Rattle.convolution.specs.Trellis.{Tracks, Chose}
use Rattle.line.specs.Line.{rule_prices}
use Rattle.line.proofs.reading.Received.decide.Given as goal

abbrev pub invariant-loop-from : goal.invariant-loop-from
invariant-loop-from g l =
    let cost = step_cost l.self.rate (rule_prices g.R.Reading.cost l.self.rule l.self.readings.now) in
    Tracks cost l.from l.metrics × ((t : ℕ) → t < l.from → Chose cost t (get_or l.decisions t 0)) × (length l.costs ≡ 64)
