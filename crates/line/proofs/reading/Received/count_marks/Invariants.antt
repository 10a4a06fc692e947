-- How many of the marks so far cost more than 0.
use Rattle.std.proofs.Common.{◌≡◌, ◌≤◌, take}
use Rattle.line.specs.Line.{dear, prices}
use Rattle.line.proofs.reading.Received.count_marks.Given as goal

abbrev pub invariant-loop-k : goal.invariant-loop-k
invariant-loop-k g l = (l.count ≤ l.k) × (l.count ≡ dear (prices g.R.Reading.cost l.self.rule.grid.rows l.self.rule.grid.columns l.self.readings.now) l.i (take l.k l.marks))
