-- The text so far is the digits of the marks passed.
use Rattle.std.proofs.Common.{◌≡◌, map, take, string_bytes}
use Rattle.airbook.specs.Digits.{digit}
use Rattle.airbook.proofs.show_marks.Given as goal

abbrev pub invariant-loop-mark : goal.invariant-loop-mark
invariant-loop-mark l = string_bytes l.text ≡ map digit (take l.mark-index l.marks)
