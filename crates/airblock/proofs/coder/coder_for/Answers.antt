use Rattle.std.proofs.Common.{◌≡◌, ◌+◌, ◌*◌, ◌/◌, arith}
use Rattle.std.proofs.Math.Nat.{mod_self}
use Rattle.airblock.proofs.Words.{whole_words, word_low}
use Rattle.airblock.proofs.coder.coder_for.Goals as goal

pub returns-in_err-check : goal.returns-in_err-check
returns-in_err-check c = rw c.from_residual.ensures (λ h. c.in_err-check.ensures (h.low, omega (arith, h.high)))

pub returns-in_err-randomiser : goal.returns-in_err-randomiser
returns-in_err-randomiser c =
    rw c.from_residual-in_err-randomiser.ensures
    (λ h. c.in_err-randomiser.ensures (record { seed_low = omega arith; seed_high = omega arith; length_low = omega arith; length_high = omega (arith, h.high); unit_low = omega arith; whole = mod_self (c.args.length + 1) }))

pub returns-in_err-code : goal.returns-in_err-code
returns-in_err-code c =
    let w = c.words_for-words.ensures in
    let n = c.args.length + 1 in
    let all : c.words_for-words.result * (n / c.words_for-words.result) ≡ n = whole_words n c.words_for-words.result w.even in
    rw c.from_residual-in_err-code.ensures
    (λ h. c.in_err-code.ensures (record {
      root = omega arith;
      words_low = w.low;
      words_high = w.high;
      data_low = word_low n c.words_for-words.result (omega arith) all;
      errors_low = omega arith;
      errors_high = omega arith;
      room = omega (arith, h.room c.words_for-words.result w);
    }))
