use Rattle.std.proofs.Common.{◌≡◌, map, take}
use Rattle.book.specs.Running.{signed}
use Rattle.book.proofs.run.fill_soft.Given as goal

-- the readings before i are those of their bytes
abbrev pub invariant-loop-i : goal.invariant-loop-i
invariant-loop-i l = take l.i l.soft ≡ map signed (take l.i l.bytes)
