-- The bytes modulo a primitive polynomial are a field, and 02 generates it.
use Rattle.std.specs.Prelude.{◌≡◌, ℕ, zero, suc, ◌+◌, ◌-◌, ◌*◌, ◌^◌, ◌<◌, ◌≤◌, ◌⊎◌, bit_xor}
use Rattle.std.proofs.Math.Path.{refl, sym, ap, ap₂}
use Rattle.std.proofs.Common.{◌∙◌, inl, inr, zero-mul, suc-mul, add_comm}
use Rattle.std.proofs.Math.Nat.{mul-one, mul_comm}
use native.Mathlib.Omega.{arith}
use Rattle.std.proofs.lemmas.Nat.{xor_lt}
use Rattle.std.proofs.lemmas.Bool.{cases_lt, cases_eq, cases_order}
use Rattle.galois.specs.Bytes.{FieldRule, raised, power}
use Rattle.galois.specs.Polynomials.{times_z, product_of, by_polynomial, field_1, field_2}
use Rattle.galois.specs.Raising.{raised_small}
use Rattle.galois.specs.Sets.{has, orbit, orbit_holds, orbit_only, has-from_two}
use Rattle.galois.specs.Shifts.{times_z-low, shifted, shifted_zero, shifted_xor, shifted_add, shifted_swap, shifted_small, product_zero, product_shifted}

-- what is computed of a polynomial 256 + p: z^255 is 1, and z to z^254 are all the bytes from 02 up
pub record Primitive (p : ℕ) : Type 0 where
  pub small : p < 256
  pub round : shifted p 255 1 ≡ 1
  pub all : orbit p 254 2 ≡ 2 ^ 256 - 4

module _ (p : ℕ) (t : Primitive p) where
  z_is_two : shifted p 1 1 ≡ 2
  unfolding shifted
  z_is_two = times_z-low p 1 (omega arith)

  -- a power of z from z on
  shifted-from_two : (k : ℕ) → shifted p (suc k) 1 ≡ shifted p k 2
  unfolding shifted
  shifted-from_two k = shifted_swap p 1 k 1 ∙ ap (shifted p k) z_is_two

  power_z_small : (n : ℕ) → shifted p n 1 < 256
  power_z_small n = shifted_small p n 1 t.small (omega arith)

  -- every byte but 0 is a power of z
  generated_by_z : (a : ℕ) → a < 256 → ¬ (a ≡ 0) → (k : ℕ) × (k < 255) × (shifted p k 1 ≡ a)
  unfolding shifted
  generated_by_z a h n = go (cases_lt a 2)
    where
      go : (a < 2) ⊎ (2 ≤ a) → (k : ℕ) × (k < 255) × (shifted p k 1 ≡ a)
      go (inl l) = (0, omega arith, omega arith)
      go (inr l) = let (k, b, e) = orbit_only p 254 2 a (ap (λ s. has s a) t.all ∙ has-from_two a l h) in (suc k, omega arith, shifted-from_two k ∙ e)

  -- no power of z before the 255th is 1 again
  shifted_not_one : (k : ℕ) → k < 254 → ¬ (shifted p (suc k) 1 ≡ 1)
  unfolding has
  shifted_not_one k h e =
      let again : has (2 ^ 256 - 4) 1 ≡ 1 = ap₂ has (sym t.all) (sym (sym (shifted-from_two k) ∙ e)) ∙ orbit_holds p k 254 2 h in
      omega arith

  -- a byte is 0 or a power of z
  data View (a : ℕ) : Type 0 where
    none : a ≡ 0 → View a
    some : (n : ℕ) → n < 255 → a ≡ shifted p n 1 → View a

  view : (a : ℕ) → a < 256 → View a
  view a h = go (cases_eq a 0)
    where
      go : (a ≡ 0) ⊎ ¬ (a ≡ 0) → View a
      go (inl e) = none e
      go (inr n) = let (k, b, e) = generated_by_z a h n in some k b (sym e)

  mul : ℕ → ℕ → ℕ
  mul = product_of 8 p

  mul_zero_left : (b : ℕ) → mul 0 b ≡ 0
  unfolding mul
  mul_zero_left b = product_zero 8 p b

  mul_shifted : (n b : ℕ) → b < 256 → mul (shifted p n 1) b ≡ shifted p n b
  unfolding mul
  mul_shifted n b h = product_shifted p n b h

  mul_zero_right : (a : ℕ) → a < 256 → mul a 0 ≡ 0
  mul_zero_right a h = go (view a h)
    where
      go : View a → mul a 0 ≡ 0
      go (none e) = ap (λ u. mul u 0) e ∙ mul_zero_left 0
      go (some n k e) = ap (λ u. mul u 0) e ∙ mul_shifted n 0 (omega arith) ∙ shifted_zero p n

  mul_small : (a b : ℕ) → a < 256 → b < 256 → mul a b < 256
  mul_small a b ha hb = go (view a ha)
    where
      go : View a → mul a b < 256
      go (none e) = simp (e, mul_zero_left) (omega arith)
      go (some n k e) = rw (e, mul_shifted n b hb) (shifted_small p n b t.small hb)

  mul_comm_bytes : (a b : ℕ) → a < 256 → b < 256 → mul a b ≡ mul b a
  mul_comm_bytes a b ha hb = go (view a ha) (view b hb)
    where
      go : View a → View b → mul a b ≡ mul b a
      go (none e) w = ap (λ u. mul u b) e ∙ mul_zero_left b ∙ sym (mul_zero_right b hb) ∙ ap (mul b) (sym e)
      go (some n k e) (none d) = ap (mul a) d ∙ mul_zero_right a ha ∙ sym (mul_zero_left a) ∙ ap (λ u. mul u a) (sym d)
      go (some n k e) (some m l d) =
          ap (λ u. mul u b) e ∙ mul_shifted n b hb ∙ ap (shifted p n) d ∙ shifted_swap p n m 1 ∙ ap (shifted p m) (sym e)
          ∙ sym (mul_shifted m a ha) ∙ ap (λ u. mul u a) (sym d)

  mul_assoc : (a b c : ℕ) → a < 256 → b < 256 → c < 256 → mul (mul a b) c ≡ mul a (mul b c)
  mul_assoc a b c ha hb hc = go (view a ha) (view b hb)
    where
      go : View a → View b → mul (mul a b) c ≡ mul a (mul b c)
      go (none e) w = simp (e, mul_zero_left)
      go (some n k e) (none d) = simp d (ap (λ u. mul u c) (mul_zero_right a ha) ∙ mul_zero_left c ∙ sym (mul_zero_right a ha) ∙ ap (mul a) (sym (mul_zero_left c)))
      go (some n k e) (some m l d) =
          ap (λ u. mul u c) (ap (λ u. mul u b) e ∙ mul_shifted n b hb ∙ ap (shifted p n) d ∙ sym (shifted_add p n m 1)) ∙ mul_shifted (n + m) c hc
          ∙ shifted_add p n m c ∙ ap (shifted p n) (sym (mul_shifted m c hc) ∙ ap (λ u. mul u c) (sym d))
          ∙ sym (mul_shifted n (mul b c) (mul_small b c hb hc)) ∙ ap (λ u. mul u (mul b c)) (sym e)

  mul_one_byte : (a : ℕ) → a < 256 → mul a 1 ≡ a
  mul_one_byte a h = go (view a h)
    where
      go : View a → mul a 1 ≡ a
      go (none e) = ap (λ u. mul u 1) e ∙ mul_zero_left 1 ∙ sym e
      go (some n k e) = ap (λ u. mul u 1) e ∙ mul_shifted n 1 (omega arith) ∙ sym e

  distrib : (a b c : ℕ) → a < 256 → b < 256 → c < 256 → mul a (bit_xor b c) ≡ bit_xor (mul a b) (mul a c)
  distrib a b c ha hb hc = go (view a ha)
    where
      go : View a → mul a (bit_xor b c) ≡ bit_xor (mul a b) (mul a c)
      go (none e) = simp (e, mul_zero_left)
      go (some n k e) =
          ap (λ u. mul u (bit_xor b c)) e ∙ mul_shifted n (bit_xor b c) (xor_lt 8 b c hb hc) ∙ shifted_xor p n b c
          ∙ sym (ap₂ bit_xor (ap (λ u. mul u b) e ∙ mul_shifted n b hb) (ap (λ u. mul u c) e ∙ mul_shifted n c hc))

  -- the powers of a power of z
  raised-shifted : (n k : ℕ) → raised mul (shifted p n 1) k ≡ shifted p (k * n) 1
  unfolding raised shifted
  raised-shifted n zero = ap (λ u. shifted p u 1) (sym (zero-mul n))
  raised-shifted n (suc k) =
      ap (mul (shifted p n 1)) (raised-shifted n k) ∙ mul_shifted n (shifted p (k * n) 1) (power_z_small (k * n)) ∙ sym (shifted_add p n (k * n) 1)
      ∙ ap (λ u. shifted p u 1) (add_comm n (k * n) ∙ sym (suc-mul k n))

  shifted_rounds : (k : ℕ) → shifted p (k * 255) 1 ≡ 1
  unfolding shifted
  shifted_rounds zero = refl
  shifted_rounds (suc k) = ap (λ u. shifted p u 1) (suc-mul k 255) ∙ shifted_add p (k * 255) 255 1 ∙ ap (shifted p (k * 255)) t.round ∙ shifted_rounds k

  pub power_shifted : (e : ℕ) → power (by_polynomial p) e ≡ shifted p e 1
  unfolding power mul
  power_shifted e = ap (λ u. raised mul u e) (sym z_is_two) ∙ raised-shifted 1 e ∙ ap (λ u. shifted p u 1) (mul-one e)

  inverse : (a : ℕ) → a < 256 → ¬ (a ≡ 0) → mul a (raised mul a 254) ≡ 1
  unfolding raised
  inverse a h k =
      let (n, b, e) = generated_by_z a h k in
      ap (λ u. raised mul u 255) (sym e) ∙ raised-shifted n 255 ∙ ap (λ u. shifted p u 1) (mul_comm 255 n) ∙ shifted_rounds n

  -- a power of z that comes again comes again from 1 on
  shifted_back : (i d : ℕ) → i < 255 → shifted p (d + i) 1 ≡ shifted p i 1 → shifted p d 1 ≡ 1
  shifted_back i d h e =
      let whole : 255 - i + i ≡ 255 = omega arith in
      let back : shifted p (255 - i) (shifted p i 1) ≡ 1 = sym (shifted_add p (255 - i) i 1) ∙ ap (λ u. shifted p u 1) whole ∙ t.round in
      ap (shifted p d) (sym back) ∙ shifted_swap p d (255 - i) (shifted p i 1)
      ∙ ap (shifted p (255 - i)) (sym (shifted_add p d i 1) ∙ e) ∙ back

  shifted-differ : (i j : ℕ) → i < j → j < 255 → ¬ (shifted p i 1 ≡ shifted p j 1)
  shifted-differ i j l h e =
      let d = j - suc i in
      let sum : j ≡ suc d + i = omega arith in
      shifted_not_one d (omega arith) (shifted_back i (suc d) (omega arith) (sym (e ∙ ap (λ u. shifted p u 1) sum)))

  shifted_apart : (i j : ℕ) → i < 255 → j < 255 → shifted p i 1 ≡ shifted p j 1 → i ≡ j
  shifted_apart i j hi hj e = go (cases_order i j)
    where
      go : (i ≡ j) ⊎ ((i < j) ⊎ (j < i)) → i ≡ j
      go (inl d) = d
      go (inr (inl l)) = absurd (shifted-differ i j l hj e)
      go (inr (inr l)) = absurd (shifted-differ j i l hi (sym e))

  pub polynomial_rule : FieldRule (by_polynomial p)
  unfolding mul raised
  polynomial_rule = record {
    mul_small = mul_small;
    inv_small = λ a h. raised_small mul mul_small a 254 h;
    mul_assoc = mul_assoc;
    mul_comm = mul_comm_bytes;
    mul_one = mul_one_byte;
    distrib = distrib;
    inverse = inverse;
    inv_zero = mul_zero_left (raised mul 0 253);
    order = power_shifted 255 ∙ t.round;
    apart = λ i j hi hj e. shifted_apart i j hi hj (sym (power_shifted i) ∙ e ∙ power_shifted j);
    generated = λ a h n. let (k, b, e) = generated_by_z a h n in (k, record { small = b; value = power_shifted k ∙ e });
  }

pub primitive_1 : Primitive 0x1D
unfolding shifted orbit times_z
primitive_1 = record { small = omega arith; round = refl; all = refl }

pub primitive_2 : Primitive 0x87
unfolding shifted orbit times_z
primitive_2 = record { small = omega arith; round = refl; all = refl }

pub rule_1 : FieldRule field_1
rule_1 = polynomial_rule 0x1D primitive_1

pub rule_2 : FieldRule field_2
rule_2 = polynomial_rule 0x87 primitive_2
