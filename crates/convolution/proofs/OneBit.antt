-- The bits of a number: one more on top, and all of them turned.
use Rattle.std.proofs.Common.{◌≡◌, ℕ, zero, suc, ◌+◌, ◌-◌, ◌*◌, ◌/◌, ◌%◌, ◌^◌, ◌<◌, sym, ap, ◌∙◌, div-one, add-one, one-add, arith}
use lib.Bits.{bit_or}
use Rattle.std.proofs.lemmas.Nat.{shl_whole, or_comm, or_shifted, pow-add, field_of, mod-pow-add, shr_high, shr-shr, mod_low, mul-le}
use Rattle.convolution.specs.Trellis.{bit_of}

pub or_bit : (c s b : ℕ) → c < 2 ^ s → b < 2 → s < 64 → bit_or c ((b * 2 ^ s) % 2 ^ 64) ≡ b * 2 ^ s + c
or_bit c s b h k l = rw (shl_whole b 1 s 64 k (omega arith)) (or_comm c (b * 2 ^ s) ∙ or_shifted b s c h)

bit_mod : (n i k : ℕ) → bit_of (n % 2 ^ ((i + 1) + k)) k ≡ bit_of n k
bit_mod n i k = rw field_of (omega (arith, mod-pow-add (n / 2 ^ k) i 1))

pub bit_lt : (c s b : ℕ) → c < 2 ^ s → b < 2 → b * 2 ^ s + c < 2 ^ (s + 1)
bit_lt c s b h k = omega (arith, pow-add 2 s 1, mul-le b (2 ^ s) 1 (2 ^ s) (omega arith) (omega arith))

pub bit_below : (c s b k : ℕ) → c < 2 ^ s → k < s → bit_of (b * 2 ^ s + c) k ≡ bit_of c k
bit_below c s b k h l =
    let e : s ≡ ((s - k - 1) + 1) + k = omega arith in
    let n = b * 2 ^ s + c in
    sym (bit_mod n (s - k - 1) k) ∙ ap (λ m. bit_of (n % 2 ^ m) k) (sym e) ∙ ap (λ m. bit_of m k) (mod_low b s c h)

pub bit_at : (c s b : ℕ) → c < 2 ^ s → b < 2 → bit_of (b * 2 ^ s + c) s ≡ b
bit_at c s b h k = rw (shr_high b s c h) (omega arith)

bit_half : (n s : ℕ) → bit_of n (suc s) ≡ bit_of (n / 2) s
bit_half n s = ap (λ m. n / 2 ^ m % 2) (sym (one-add s)) ∙ ap (λ v. v % 2) (sym (shr-shr n 1 s))

pub bit-turned : (k n s : ℕ) → n < 2 ^ k → s < k → bit_of (2 ^ k - 1 - n) s ≡ 1 - bit_of n s
bit-turned zero n s h l = absurd (omega arith)
bit-turned (suc k) n zero h l = rw (div-one (2 ^ suc k - 1 - n), div-one n) (omega (arith, pow-add 2 k 1, ap (λ m. 2 ^ m) (add-one k)))
bit-turned (suc k) n (suc s) h l =
    let two : 2 ^ suc k ≡ 2 ^ k * 2 = ap (λ m. 2 ^ m) (sym (add-one k)) ∙ pow-add 2 k 1 in
    let e : (2 ^ suc k - 1 - n) / 2 ≡ 2 ^ k - 1 - n / 2 = omega arith in
    bit_half (2 ^ suc k - 1 - n) s ∙ ap (λ v. bit_of v s) e ∙ bit-turned k (n / 2) s (omega arith) (omega arith) ∙ ap (λ b. 1 - b) (sym (bit_half n s))
