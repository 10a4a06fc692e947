-- A mark as a sum of bits, one for each bit of the generator.
use Rattle.std.proofs.Common.{◌≡◌, ℕ, zero, suc, ◌+◌, ◌*◌, ◌/◌, ◌%◌, ◌^◌, ◌<◌, sym, refl, ap, ◌∙◌, mod-eq_of_lt, add_comm, arith}
use lib.Bits.{bit_and, bit_xor, and_zero_r, and_block, and_mask, and_lt, xor_shr, xor_mod}
use lib.Count.{ones, ones_cat}
use Rattle.std.proofs.lemmas.Nat.{shr-shr, shr_split, mod-pow-add, pow_pos, mod_below}
use Rattle.convolution.specs.Code.{mark}

ones_bit : (x : ℕ) → x < 2 → ones x ≡ x
unfolding ones
ones_bit zero h = refl
ones_bit (suc zero) h = refl
ones_bit (suc (suc x)) h = absurd (omega arith)

xor_bits : (x y : ℕ) → x < 2 → y < 2 → bit_xor x y ≡ (x + y) % 2
xor_bits zero zero h k = refl
xor_bits zero (suc zero) h k = refl
xor_bits (suc zero) zero h k = refl
xor_bits (suc zero) (suc zero) h k = refl
xor_bits (suc (suc x)) y h k = absurd (omega arith)
xor_bits zero (suc (suc y)) h k = absurd (omega arith)
xor_bits (suc zero) (suc (suc y)) h k = absurd (omega arith)

-- the ones that a number shares with a digit above j and with j digits below it
ones_and_block : (a d r j : ℕ) → r < 2 ^ j → ones (bit_and a (d * 2 ^ j + r)) ≡ ones (bit_and (a / 2 ^ j) d) + ones (bit_and (a % 2 ^ j) r)
ones_and_block a d r j h =
    let low : a % 2 ^ j < 2 ^ j = mod_below a (2 ^ j) (pow_pos j) in
    ap (λ (x : ℕ). ones (bit_and x (d * 2 ^ j + r))) (sym (shr_split a j)) ∙ ap ones (and_block j (a / 2 ^ j) d (a % 2 ^ j) r low h) ∙ ones_cat j (bit_and (a / 2 ^ j) d) (bit_and (a % 2 ^ j) r) (and_lt j (a % 2 ^ j) r low h)

ones_and_low : (a r j : ℕ) → r < 2 ^ j → ones (bit_and a r) ≡ ones (bit_and (a % 2 ^ j) r)
ones_and_low a r j h =
    let e : r ≡ 0 * 2 ^ j + r = omega arith in
    ap (λ (x : ℕ). ones (bit_and a x)) e ∙ ones_and_block a 0 r j h ∙ ap (λ (x : ℕ). ones x + ones (bit_and (a % 2 ^ j) r)) (and_zero_r (a / 2 ^ j))
    ∙ omega (arith, ones_bit 0 (omega arith))

-- one more digit of the mask
ones_and_more : (a g j : ℕ) → ones (bit_and a (g % 2 ^ (j + 1))) ≡ ones (bit_and (a / 2 ^ j) (g / 2 ^ j % 2)) + ones (bit_and a (g % 2 ^ j))
ones_and_more a g j =
    let low : g % 2 ^ j < 2 ^ j = mod_below g (2 ^ j) (pow_pos j) in
    ap (λ (k : ℕ). ones (bit_and a (g % 2 ^ k))) (add_comm j 1) ∙ ap (λ (x : ℕ). ones (bit_and a x)) (mod-pow-add g 1 j) ∙ ones_and_block a (g / 2 ^ j % 2) (g % 2 ^ j) j low
    ∙ ap (λ (x : ℕ). ones (bit_and (a / 2 ^ j) (g / 2 ^ j % 2)) + x) (sym (ones_and_low a (g % 2 ^ j) j low))

shr_swap : (n i j : ℕ) → n / 2 ^ i / 2 ^ j ≡ n / 2 ^ j / 2 ^ i
shr_swap n i j = shr-shr n i j ∙ ap (λ (k : ℕ). n / 2 ^ k) (add_comm i j) ∙ sym (shr-shr n j i)

-- bit i of the number s is 1 when the mask's low j digits share an odd number of ones with the bits from place i on
abbrev pub Summed : ℕ → ℕ → ℕ → ℕ → Type 0
Summed s bits g j = (i : ℕ) → s / 2 ^ i % 2 ≡ ones (bit_and (bits / 2 ^ i) (g % 2 ^ j)) % 2

pub summed_set : (s bits g j : ℕ) → g / 2 ^ j % 2 ≡ 1 → Summed s bits g j → Summed (bit_xor s (bits / 2 ^ j)) bits g (j + 1)
summed_set s bits g j e h i =
    let a = bits / 2 ^ i in
    let b = bits / 2 ^ j / 2 ^ i in
    let shared : ones (bit_and (a / 2 ^ j) (g / 2 ^ j % 2)) ≡ b % 2 =
    ap (λ (d : ℕ). ones (bit_and (a / 2 ^ j) d)) e ∙ ap ones (and_mask (a / 2 ^ j) 1) ∙ ones_bit (a / 2 ^ j % 2) (omega arith) ∙ ap (λ (x : ℕ). x % 2) (shr_swap bits i j) in
    ap (λ (x : ℕ). x % 2) (xor_shr s (bits / 2 ^ j) i) ∙ xor_mod (s / 2 ^ i) b 1 ∙ xor_bits (s / 2 ^ i % 2) (b % 2) (omega arith) (omega arith)
    ∙ omega (arith, h i, shared, ones_and_more a g j)

pub summed_clear : (s bits g j : ℕ) → g / 2 ^ j % 2 ≡ 0 → Summed s bits g j → Summed s bits g (j + 1)
summed_clear s bits g j e h i =
    let a = bits / 2 ^ i in
    let none : ones (bit_and (a / 2 ^ j) (g / 2 ^ j % 2)) ≡ 0 =
    ap (λ (d : ℕ). ones (bit_and (a / 2 ^ j) d)) e ∙ ap ones (and_zero_r (a / 2 ^ j)) ∙ ones_bit 0 (omega arith) in
    omega (arith, h i, none, ones_and_more a g j)

pub summed_all : (s bits g : ℕ) → g < 128 → Summed s bits g 7 → (i : ℕ) → s / 2 ^ i % 2 ≡ mark g (bits / 2 ^ i % 128)
summed_all s bits g l h i =
    h i ∙ ap (λ (x : ℕ). ones (bit_and (bits / 2 ^ i) x) % 2) (mod-eq_of_lt l) ∙ ap (λ (x : ℕ). x % 2) (ones_and_low (bits / 2 ^ i) g 7 l)
