use Rattle.std.proofs.Common.{◌≡◌, map, take, drop}
use Rattle.book.specs.Running.{mark_of, first_over}
use Rattle.book.proofs.run.fill_hard.Given as goal

-- the bytes before i are marks, and taken over
abbrev pub invariant-loop-i : goal.invariant-loop-i
invariant-loop-i l = (first_over 0 l.bytes ≡ first_over l.i (drop l.i l.bytes)) × (take l.i l.marks ≡ map mark_of (take l.i l.bytes))
