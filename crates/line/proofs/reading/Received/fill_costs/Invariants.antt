-- The costs of the steps so far.
use Rattle.std.proofs.Common.{◌≡◌, ℕ, ◌+◌, ◌<◌, get_or}
use Rattle.convolution.specs.Code.{marks_before}
use Rattle.convolution.specs.Slots.{Prices, Small, free}
use Rattle.line.specs.Line.{prices}
use Rattle.line.proofs.reading.Received.fill_costs.Given as goal

abbrev pub invariant-loop-k : goal.invariant-loop-k
invariant-loop-k g l =
    (l.next ≡ marks_before l.self.rate (l.from + l.k)) × ((j : ℕ) → j < l.k → Prices l.self.rate (prices g.R.Reading.cost l.self.rule.grid.rows l.self.rule.grid.columns l.self.readings.now) (l.from + j) (get_or l.costs j free))
    × ((j : ℕ) → j < l.k → Small (get_or l.costs j free))
