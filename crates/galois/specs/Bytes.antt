-- Fields of bytes: a sum is the exclusive or, a product is the field's own, and 02 hex generates every byte but 0.
use Rattle.std.specs.Prelude.{◌≡◌, ℕ, zero, suc, ◌%◌, ◌<◌, ◌≤◌, bit_xor}
use Rattle.std.proofs.Common.{ap, mod-lt, arith}
use mathlib.Core.HLevel.{is_prop→PathP}
use Rattle.std.proofs.Math.Bridge.{le_prop}
use Rattle.std.proofs.Math.Decide.{ℕ_discrete}
use Rattle.std.specs.Int.Bits.{xor_zero_r, xor_assoc, xor_self}
use Rattle.std.proofs.lemmas.Nat.{xor_comm, xor_lt}
use Rattle.galois.specs.Laws.{Field}

-- a byte
pub record Byte : Type 0 where
  pub val : ℕ
  pub small : val < 256

-- bytes of one value are one byte
pub same_byte : {a b : Byte} → a.val ≡ b.val → a ≡ b
same_byte {a} {b} e = λ i. record { val = e i; small = is_prop→PathP (λ j. suc (e j) ≤ 256) (λ j. le_prop) a.small b.small i }

-- the byte of a number: its remainder by 256
unfoldable pub lift : ℕ → Byte
lift n = record { val = n % 256; small = mod-lt n (omega arith) }

-- what a field of bytes means: its product and its inverse
pub record ByteField : Type 0 where
  pub mul : ℕ → ℕ → ℕ
  pub inv : ℕ → ℕ

-- the product of n factors a
unfoldable pub raised : (ℕ → ℕ → ℕ) → ℕ → ℕ → ℕ
raised mul a zero = 1
raised mul a (suc n) = mul a (raised mul a n)

-- the powers of 02
unfoldable pub power : ByteField → ℕ → ℕ
power f = raised f.mul 2

-- a is the power of 02 with exponent e
pub record Exponent (f : ByteField) (a e : ℕ) : Type 0 where
  pub small : e < 255
  pub value : power f e ≡ a

-- the laws of a field of bytes
pub record FieldRule (f : ByteField) : Type 0 where
  pub mul_small : (a b : ℕ) → a < 256 → b < 256 → f.mul a b < 256
  pub inv_small : (a : ℕ) → a < 256 → f.inv a < 256
  pub mul_assoc : (a b c : ℕ) → a < 256 → b < 256 → c < 256 → f.mul (f.mul a b) c ≡ f.mul a (f.mul b c)
  pub mul_comm : (a b : ℕ) → a < 256 → b < 256 → f.mul a b ≡ f.mul b a
  pub mul_one : (a : ℕ) → a < 256 → f.mul a 1 ≡ a
  pub distrib : (a b c : ℕ) → a < 256 → b < 256 → c < 256 → f.mul a (bit_xor b c) ≡ bit_xor (f.mul a b) (f.mul a c)
  pub inverse : (a : ℕ) → a < 256 → ¬ (a ≡ 0) → f.mul a (f.inv a) ≡ 1
  -- 0 has no inverse, and 0 stands in its place
  pub inv_zero : f.inv 0 ≡ 0
  -- 02 has order 255
  pub order : power f 255 ≡ 1
  pub apart : (i j : ℕ) → i < 255 → j < 255 → power f i ≡ power f j → i ≡ j
  -- every byte but 0 is a power of 02
  pub generated : (a : ℕ) → a < 256 → ¬ (a ≡ 0) → (e : ℕ) × Exponent f a e

-- a field of bytes as a field
unfoldable pub lifted : (f : ByteField) → FieldRule f → Field Byte
lifted f rule = record {
  zero = record { val = 0; small = omega arith };
  one = record { val = 1; small = omega arith };
  add = λ a b. record { val = bit_xor a.val b.val; small = xor_lt 8 a.val b.val a.small b.small };
  mul = λ a b. record { val = f.mul a.val b.val; small = rule.mul_small a.val b.val a.small b.small };
  inv = λ a. record { val = f.inv a.val; small = rule.inv_small a.val a.small };
  add_assoc = λ a b c. same_byte (xor_assoc a.val b.val c.val);
  add_comm = λ a b. same_byte (xor_comm a.val b.val);
  add_zero = λ a. same_byte (xor_zero_r a.val);
  add_self = λ a. same_byte (xor_self a.val);
  mul_assoc = λ a b c. same_byte (rule.mul_assoc a.val b.val c.val a.small b.small c.small);
  mul_comm = λ a b. same_byte (rule.mul_comm a.val b.val a.small b.small);
  mul_one = λ a. same_byte (rule.mul_one a.val a.small);
  distrib = λ a b c. same_byte (rule.distrib a.val b.val c.val a.small b.small c.small);
  one_not_zero = λ e. omega (arith, ap (λ (a : Byte). a.val) e);
  inverse = λ a n. same_byte (rule.inverse a.val a.small (λ e. n (same_byte e)));
  same = λ a b. elim (ℕ_discrete a.val b.val) [ yes e ↦ yes (same_byte e) | no e ↦ no (λ d. e (ap (λ (x : Byte). x.val) d)) ];
}
