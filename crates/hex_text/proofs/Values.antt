-- Digits and their values.
use Rattle.std.proofs.Common.{◌≡◌, ℕ, ◌+◌, ◌*◌, ◌/◌, ◌%◌, ◌<◌, Some, ap, ◌∙◌, arith}
use Rattle.std.proofs.lemmas.Bool.Decides.{nat_tests}
use Rattle.hex_text.specs.Digits.{digit, letter, Pair}

pub digit-letter : (v : ℕ) → v < 16 → digit (letter v) ≡ Some v
unfolding digit letter
digit-letter v h = grind (arith, nat_tests)

pub letter_ascii : (v : ℕ) → v < 16 → letter v < 128
unfolding letter
letter_ascii v h = grind (arith, nat_tests)

pub pair_says : (high low a b : ℕ) → digit high ≡ Some a → digit low ≡ Some b → b < 16 → Pair high low (a * 16 + b)
pair_says high low a b e f small =
    let above : a ≡ (a * 16 + b) / 16 = omega arith in
    let below : b ≡ (a * 16 + b) % 16 = omega arith in
    (e ∙ ap Some above, f ∙ ap Some below)
