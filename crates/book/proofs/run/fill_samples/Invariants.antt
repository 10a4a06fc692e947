use Rattle.std.proofs.Common.{◌≡◌, map, take}
use Rattle.readings.specs.Samples.{soft_of}
use Rattle.book.specs.Running.{samples}
use Rattle.book.proofs.run.fill_samples.Given as goal

-- the readings before i are those of their samples
abbrev pub invariant-loop-i : goal.invariant-loop-i
invariant-loop-i l = take l.i l.soft ≡ map soft_of (take l.i (samples l.bytes))
