-- After each byte the register is the check byte of the bytes so far.
use Rattle.std.proofs.Common.{◌≡◌, take}
use Rattle.stages.specs.Remainder.{check_byte}
use Rattle.stages.proofs.remainder.check_byte.Given as goal

abbrev pub invariant-loop-b : goal.invariant-loop-b
invariant-loop-b l = l.r ≡ check_byte (take l.b-index l.body)
