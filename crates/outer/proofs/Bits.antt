-- A byte as the sum of its bits.
use Rattle.std.proofs.Common.{◌≡◌, ℕ, ◌+◌, ◌*◌, ◌/◌, ◌%◌, ◌^◌, ◌<◌, ◌≤◌, cond, eqb, ◌⊎◌, List, sym, ap, ◌∙◌, inl, inr, mod-lt, add_comm, one-mul, zero-mul, arith, pow_pos, ne_eqb}
use native.Mathlib.Nat.{mod-one}
use lib.Bits.{bit_xor, bit_and, xor_zero_r, xor_comm, xor_shifted}
use Rattle.std.proofs.lemmas.Nat.{mod-pow-add, pow_below}
use Rattle.std.proofs.lemmas.Nat.Bits.{and_pow}
use Rattle.std.proofs.lemmas.Bool.{cases_lt}
use Rattle.galois.specs.Bytes.{ByteField, FieldRule}
use Rattle.outer.specs.Lanes.{lane}
use Rattle.outer.proofs.Equations.{mul_zero}

-- the lowest i bits of each lane
abbrev pub low : List ℕ → ℕ → ℕ → ℕ
low v i l = lane v l % 2 ^ i

-- one bit more from below
mod_more : (b i : ℕ) → b % 2 ^ (i + 1) ≡ bit_xor (b / 2 ^ i % 2 * 2 ^ i) (b % 2 ^ i)
mod_more b i =
    ap (λ k. b % 2 ^ k) (add_comm i 1) ∙ mod-pow-add b 1 i ∙ sym (xor_shifted (b / 2 ^ i % 2) i (b % 2 ^ i) (mod-lt b (pow_pos i)))

-- the product of one bit more
pub mul_more : (f : ByteField) (c b i : ℕ) → FieldRule f → c < 256 → i < 8
    → f.mul c (b % 2 ^ (i + 1)) ≡ bit_xor (f.mul c (b % 2 ^ i)) (cond (eqb (bit_and b (2 ^ i)) 0) 0 (f.mul c (2 ^ i)))
mul_more f c b i rule hc hi = go (b / 2 ^ i % 2) (and_pow b i) (mod_more b i) (cases_lt (b / 2 ^ i % 2) 1) (mod-lt (b / 2 ^ i) (omega arith))
  where
    r : ℕ
    r = b % 2 ^ i

    there : 2 ^ i < 256
    there = pow_below i 8 hi

    small : r < 256
    small = omega (arith, mod-lt b (pow_pos i), pow_below i 8 hi)

    go : (q : ℕ) → bit_and b (2 ^ i) ≡ q * 2 ^ i → b % 2 ^ (i + 1) ≡ bit_xor (q * 2 ^ i) r → (q < 1) ⊎ (1 ≤ q) → q < 2
        → f.mul c (b % 2 ^ (i + 1)) ≡ bit_xor (f.mul c r) (cond (eqb (bit_and b (2 ^ i)) 0) 0 (f.mul c (2 ^ i)))
    go q e d (inl l) h =
        let none : q * 2 ^ i ≡ 0 = ap (λ n. n * 2 ^ i) (omega arith) ∙ zero-mul (2 ^ i) in
        ap (f.mul c) (d ∙ ap (λ n. bit_xor n r) none)
        ∙ sym (xor_zero_r (f.mul c r))
        ∙ sym (ap (λ n. bit_xor (f.mul c r) (cond (eqb n 0) 0 (f.mul c (2 ^ i)))) (e ∙ none))
    go q e d (inr l) h =
        let once : q * 2 ^ i ≡ 2 ^ i = ap (λ n. n * 2 ^ i) (omega arith) ∙ one-mul (2 ^ i) in
        ap (f.mul c) (d ∙ ap (λ n. bit_xor n r) once) ∙ rule.distrib c (2 ^ i) r hc there small ∙ xor_comm (f.mul c (2 ^ i)) (f.mul c r)
        ∙ sym (ap (λ t. bit_xor (f.mul c r) (cond t 0 (f.mul c (2 ^ i)))) (ap (λ n. eqb n 0) (e ∙ once) ∙ ne_eqb (2 ^ i) 0 (λ z. omega (arith, pow_pos i))))

-- the product of no bit
pub mul_none : (f : ByteField) (c b : ℕ) → FieldRule f → c < 256 → f.mul c (b % 2 ^ 0) ≡ 0
mul_none f c b rule h = ap (f.mul c) (mod-one b) ∙ mul_zero f rule c h
