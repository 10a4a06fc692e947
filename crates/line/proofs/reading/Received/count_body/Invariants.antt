-- How many marks of the bytes so far cost more than 0.
use Rattle.std.proofs.Common.{◌≡◌, length}
use Rattle.convolution.specs.Encoding.{After, sent}
use Rattle.line.specs.Line.{dear, prices}
use Rattle.line.proofs.Running.{front}
use Rattle.line.proofs.reading.Received.count_body.Given as goal

abbrev pub invariant-loop-byte : goal.invariant-loop-byte
invariant-loop-byte g l =
    After l.initial.encoder.rate (front l.body l.byte-index) l.encoder × (l.i ≡ length (sent l.initial.encoder.rate (front l.body l.byte-index)))
    × (l.total ≡ dear (prices g.R.Reading.cost l.self.rule.grid.rows l.self.rule.grid.columns l.self.readings.now) 0 (sent l.initial.encoder.rate (front l.body l.byte-index)))
