-- The marks of the bytes so far stand at their places.
use Rattle.std.proofs.Common.{◌≡◌, length}
use Rattle.convolution.specs.Encoding.{After, sent}
use Rattle.line.specs.Line.{spread}
use Rattle.line.proofs.Running.{front}
use Rattle.line.proofs.sending.put_body.Given as goal

abbrev pub invariant-loop-byte : goal.invariant-loop-byte
invariant-loop-byte l = After l.initial.encoder.rate (front l.body l.byte-index) l.encoder × (l.at ≡ length (sent l.initial.encoder.rate (front l.body l.byte-index))) × (l.symbols ≡ spread l.rule.grid.rows l.rule.grid.columns (sent l.initial.encoder.rate (front l.body l.byte-index)))
