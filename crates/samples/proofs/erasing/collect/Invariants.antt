use Rattle.std.proofs.Common.{◌≡◌, length, take, drop}
use Rattle.stack.specs.Buffers.{padded}
use Rattle.samples.specs.Erased.{present, values}
use Rattle.samples.proofs.erasing.collect.Given as goal

abbrev pub invariant-loop-i : goal.invariant-loop-i
invariant-loop-i l = (present (drop l.i l.readings) ≡ present l.readings) × (l.to ≡ padded (length l.initial.to) (values (take l.i l.readings)))
