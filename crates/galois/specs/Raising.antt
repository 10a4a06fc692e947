-- Products of equal factors, and the powers of 02, in any field of bytes.
use Rattle.std.specs.Prelude.{◌≡◌, ℕ, zero, suc, ◌+◌, ◌-◌, ◌*◌, ◌/◌, ◌%◌, ◌<◌, ◌≤◌, ◌⊎◌}
use Rattle.std.proofs.Math.Path.{refl, sym, ap, ap₂}
use Rattle.std.proofs.Common.{◌∙◌, inl, inr, zero-add, suc-add, suc-mul}
use native.Mathlib.Omega.{arith}
use Rattle.std.specs.Int.Bits.{xor_self}
use Rattle.galois.specs.Bytes.{ByteField, FieldRule, raised, power}

pub raised_small : (mul : ℕ → ℕ → ℕ) → ((a b : ℕ) → a < 256 → b < 256 → mul a b < 256) → (a n : ℕ) → a < 256 → raised mul a n < 256
unfolding raised
raised_small mul small a zero h = omega arith
raised_small mul small a (suc n) h = small a (raised mul a n) h (raised_small mul small a n h)

module _ (f : ByteField) (rule : FieldRule f) where
  raised_byte : (a n : ℕ) → a < 256 → raised f.mul a n < 256
  raised_byte = raised_small f.mul rule.mul_small

  -- half as many factors, each the square
  raised_square : (a n : ℕ) → a < 256 → raised f.mul (f.mul a a) n ≡ raised f.mul a (n * 2)
  unfolding raised
  raised_square a zero h = refl
  raised_square a (suc n) h =
      let two : suc (suc (n * 2)) ≡ suc n * 2 = omega arith in
      ap (f.mul (f.mul a a)) (raised_square a n h) ∙ rule.mul_assoc a a (raised f.mul a (n * 2)) h h (raised_byte a (n * 2) h)
      ∙ ap (raised f.mul a) two

  -- the first turn of raising by squaring: one has no factor yet
  pub raised_none : (a n : ℕ) → a < 256 → f.mul 1 (raised f.mul a n) ≡ raised f.mul a n
  raised_none a n h = rule.mul_comm 1 (raised f.mul a n) (omega arith) (raised_byte a n h) ∙ rule.mul_one (raised f.mul a n) (raised_byte a n h)

  -- an odd number of factors left: one of them goes to the result
  pub raised_odd : (r a n : ℕ) → r < 256 → a < 256 → n % 2 ≡ 1 → f.mul (f.mul r a) (raised f.mul (f.mul a a) (n / 2)) ≡ f.mul r (raised f.mul a n)
  unfolding raised
  raised_odd r a n hr ha e =
      let all : suc (n / 2 * 2) ≡ n = omega arith in
      ap (f.mul (f.mul r a)) (raised_square a (n / 2) ha) ∙ rule.mul_assoc r a (raised f.mul a (n / 2 * 2)) hr ha (raised_byte a (n / 2 * 2) ha)
      ∙ ap (λ k. f.mul r (raised f.mul a k)) all

  -- an even number of factors left
  pub raised_even : (r a n : ℕ) → a < 256 → ¬ (n % 2 ≡ 1) → f.mul r (raised f.mul (f.mul a a) (n / 2)) ≡ f.mul r (raised f.mul a n)
  raised_even r a n h e =
      let all : n / 2 * 2 ≡ n = omega arith in
      ap (f.mul r) (raised_square a (n / 2) h ∙ ap (raised f.mul a) all)

  -- no factor left
  pub raised_all : (r a n : ℕ) → r < 256 → n ≡ 0 → r ≡ f.mul r (raised f.mul a n)
  unfolding raised
  raised_all r a n h e = sym (ap (λ k. f.mul r (raised f.mul a k)) e ∙ rule.mul_one r h)

  -- factors side by side
  raised_add : (a m n : ℕ) → a < 256 → raised f.mul a (m + n) ≡ f.mul (raised f.mul a m) (raised f.mul a n)
  unfolding raised
  raised_add a zero n h = ap (raised f.mul a) (zero-add n) ∙ sym (raised_none a n h)
  raised_add a (suc m) n h =
      ap (raised f.mul a) (suc-add m n) ∙ ap (f.mul a) (raised_add a m n h)
      ∙ sym (rule.mul_assoc a (raised f.mul a m) (raised f.mul a n) h (raised_byte a m h) (raised_byte a n h))

  pub power_small : (e : ℕ) → power f e < 256
  unfolding power
  power_small e = raised_byte 2 e (omega arith)

  pub power_add : (m n : ℕ) → power f (m + n) ≡ f.mul (power f m) (power f n)
  unfolding power
  power_add m n = raised_add 2 m n (omega arith)

  power_rounds : (k : ℕ) → power f (k * 255) ≡ 1
  unfolding power raised
  power_rounds zero = refl
  power_rounds (suc k) =
      ap (power f) (suc-mul k 255) ∙ power_add (k * 255) 255 ∙ ap₂ f.mul (power_rounds k) rule.order ∙ rule.mul_one 1 (omega arith)

  -- an exponent counts by its remainder by 255
  pub power_remainder : (e : ℕ) → power f (e % 255) ≡ power f e
  power_remainder e =
      let parts : e % 255 + e / 255 * 255 ≡ e = omega arith in
      sym (ap (power f) (sym parts) ∙ power_add (e % 255) (e / 255 * 255) ∙ ap (f.mul (power f (e % 255))) (power_rounds (e / 255)) ∙ rule.mul_one (power f (e % 255)) (power_small (e % 255)))

  -- a product by 0 is 0
  pub mul_zero : (a b : ℕ) → a < 256 → b < 256 → (a ≡ 0) ⊎ (b ≡ 0) → 0 ≡ f.mul a b
  mul_zero a b ha hb w = go w
    where
      right : (c : ℕ) → c < 256 → f.mul c 0 ≡ 0
      right c h = rule.distrib c 0 0 h (omega arith) (omega arith) ∙ xor_self (f.mul c 0)

      go : (a ≡ 0) ⊎ (b ≡ 0) → 0 ≡ f.mul a b
      go (inl e) = sym (rule.mul_comm a b ha hb ∙ ap (f.mul b) e ∙ right b hb)
      go (inr e) = sym (ap (f.mul a) e ∙ right a ha)

  -- a byte has one inverse
  pub inverse_only : (a b : ℕ) → a < 256 → b < 256 → ¬ (a ≡ 0) → f.mul a b ≡ 1 → b ≡ f.inv a
  inverse_only a b ha hb n e =
      let i = f.inv a in
      let hi = rule.inv_small a ha in
      sym (ap (f.mul b) (rule.inverse a ha n) ∙ rule.mul_one b hb) ∙ sym (rule.mul_assoc b a i hb ha hi)
      ∙ ap (λ x. f.mul x i) (rule.mul_comm b a hb ha ∙ e) ∙ rule.mul_comm 1 i (omega arith) hi ∙ rule.mul_one i hi

  -- the inverse of a power of 02
  pub power_inverse : (e a : ℕ) → e ≤ 255 → a < 256 → ¬ (a ≡ 0) → power f e ≡ a → power f (255 - e) ≡ f.inv a
  power_inverse e a h ha n d =
      let whole : e + (255 - e) ≡ 255 = omega arith in
      inverse_only a (power f (255 - e)) ha (power_small (255 - e)) n
      (ap (λ x. f.mul x (power f (255 - e))) (sym d) ∙ sym (power_add e (255 - e)) ∙ ap (power f) whole ∙ rule.order)
