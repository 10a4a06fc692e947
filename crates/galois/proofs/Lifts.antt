-- The numbers of a field of bytes, carried to its bytes.
use Rattle.std.proofs.Common.{◌≡◌, ℕ, ◌<◌, sym, refl, ap, ◌∙◌, ap₂, mod-eq_of_lt}
use lib.Bits.{bit_xor, xor_mod}
use Rattle.galois.specs.Bytes.{Byte, same_byte, lift, ByteField, FieldRule, lifted}

pub lift_only : (a b : ℕ) → a < 256 → b < 256 → lift a ≡ lift b → a ≡ b
unfolding lift
lift_only a b ha hb e = sym (mod-eq_of_lt ha) ∙ ap (λ (x : Byte). x.val) e ∙ mod-eq_of_lt hb

module _ (f : ByteField) (rule : FieldRule f) where
  pub lift_zero : lift 0 ≡ (lifted f rule).zero
  unfolding lift lifted
  lift_zero = same_byte refl

  pub lift_one : lift 1 ≡ (lifted f rule).one
  unfolding lift lifted
  lift_one = same_byte refl

  pub lift_xor : (a b : ℕ) → lift (bit_xor a b) ≡ (lifted f rule).add (lift a) (lift b)
  unfolding lift lifted
  lift_xor a b = same_byte (xor_mod a b 8)

  pub lift_mul : (a b : ℕ) → a < 256 → b < 256 → lift (f.mul a b) ≡ (lifted f rule).mul (lift a) (lift b)
  unfolding lift lifted
  lift_mul a b ha hb = same_byte (mod-eq_of_lt (rule.mul_small a b ha hb) ∙ sym (ap₂ f.mul (mod-eq_of_lt ha) (mod-eq_of_lt hb)))

  pub lift_inv : (a : ℕ) → a < 256 → lift (f.inv a) ≡ (lifted f rule).inv (lift a)
  unfolding lift lifted
  lift_inv a h = same_byte (mod-eq_of_lt (rule.inv_small a h) ∙ sym (ap f.inv (mod-eq_of_lt h)))
