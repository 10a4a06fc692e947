-- Whole words.
use Rattle.std.proofs.Common.{◌≡◌, ℕ, zero, suc, ◌+◌, ◌*◌, ◌/◌, ◌%◌, ◌≤◌, sym, refl, ap, ◌∙◌, add-zero, mul-zero, arith}
use Rattle.std.proofs.Math.Nat.{div-add-mod}

-- the words into which a length divides evenly make it up
pub whole_words : (n words : ℕ) → n % words ≡ 0 → words * (n / words) ≡ n
whole_words n words e = sym (sym (div-add-mod n words) ∙ ap (λ r. words * (n / words) + r) e ∙ add-zero (words * (n / words)))

-- a word of a length that is not zero is not empty
pub word_low : (n words : ℕ) → 1 ≤ n → words * (n / words) ≡ n → 1 ≤ n / words
word_low n words low all = go (n / words) refl
  where
    go : (q : ℕ) → n / words ≡ q → 1 ≤ q
    go zero e = absurd (omega (arith, sym all ∙ ap (λ q. words * q) e ∙ mul-zero words))
    go (suc q) e = omega arith
