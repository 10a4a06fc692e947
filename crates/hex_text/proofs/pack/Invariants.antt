-- Each turn makes one byte, which its two digits say.
use Rattle.std.proofs.Common.{◌≡◌, vec_items, vec_len}
use Rattle.hex_text.specs.Digits.{Pairs}
use Rattle.hex_text.proofs.pack.Given as goal

abbrev pub invariant-loop-high : goal.invariant-loop-high
invariant-loop-high l = (vec_len l.bytes ≡ l.high-index) × Pairs l.text (vec_items l.bytes) l.high-index
