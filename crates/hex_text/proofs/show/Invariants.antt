-- The text so far is what the bytes passed are written as.
use Rattle.std.proofs.Common.{◌≡◌, take, string_bytes}
use Rattle.hex_text.specs.Digits.{written}
use Rattle.hex_text.proofs.show.Given as goal

abbrev pub invariant-loop-b : goal.invariant-loop-b
invariant-loop-b l = string_bytes l.text ≡ written (take l.b-index l.bytes)
