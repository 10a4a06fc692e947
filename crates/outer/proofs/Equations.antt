-- Equations of a field of bytes.
use Rattle.std.proofs.Common.{◌≡◌, ℕ, ◌<◌, sym, ap, ◌∙◌, arith}
use lib.Bits.{bit_xor, xor_self, xor_assoc}
use Rattle.galois.specs.Laws.{Field}
use Rattle.galois.specs.Bytes.{Byte, ByteField, FieldRule, lifted}
use Rattle.outer.proofs.Rings.{ring}

module _ {K : Type 0} (F : Field K) where
  open F use {add as ◌⊕◌, mul as ◌⊗◌}

  infixl 60 ◌⊕◌
  infixl 70 ◌⊗◌
  horner_more : (k u v x t g : K) → (u ⊕ k ⊗ v) ⊗ x ⊕ (t ⊕ k ⊗ g) ≡ (u ⊗ x ⊕ t) ⊕ k ⊗ (v ⊗ x ⊕ g)
  horner_more k u v x t g = simp ring

  horner_last : (k u v x g : K) → (u ⊕ k ⊗ v) ⊗ x ⊕ k ⊗ g ≡ u ⊗ x ⊕ k ⊗ (v ⊗ x ⊕ g)
  horner_last k u v x g = simp ring

module _ (f : ByteField) (rule : FieldRule f) where
  pub mul_zero : (a : ℕ) → a < 256 → f.mul a 0 ≡ 0
  mul_zero a h = rule.distrib a 0 0 h (omega arith) (omega arith) ∙ xor_self (f.mul a 0)

  pub zero_mul : (a : ℕ) → a < 256 → f.mul 0 a ≡ 0
  zero_mul a h = rule.mul_comm 0 a (omega arith) h ∙ mul_zero a h

  -- Horner's step for the sum of one word and k times another, and the step where the first word has ended
  module _ (k u v x g : ℕ) (hk : k < 256) (hu : u < 256) (hv : v < 256) (hx : x < 256) (hg : g < 256) where
    pub more_of_both : (t : ℕ) → t < 256
        → bit_xor (f.mul (bit_xor u (f.mul k v)) x) (bit_xor t (f.mul k g)) ≡ bit_xor (bit_xor (f.mul u x) t) (f.mul k (bit_xor (f.mul v x) g))
    unfolding lifted
    more_of_both t ht =
        ap (λ (b : Byte). b.val)
        (horner_more (lifted f rule) (record { val = k; small = hk }) (record { val = u; small = hu }) (record { val = v; small = hv }) (record { val = x; small = hx }) (record { val = t; small = ht })
        (record { val = g; small = hg }))

    pub more_of_second : bit_xor (f.mul (bit_xor u (f.mul k v)) x) (f.mul k g) ≡ bit_xor (f.mul u x) (f.mul k (bit_xor (f.mul v x) g))
    unfolding lifted
    more_of_second =
        ap (λ (b : Byte). b.val)
        (horner_last (lifted f rule) (record { val = k; small = hk }) (record { val = u; small = hu }) (record { val = v; small = hv }) (record { val = x; small = hx }) (record { val = g; small = hg }))

-- what is added twice falls away
pub xor_between : (a h d : ℕ) → bit_xor (bit_xor a h) (bit_xor h d) ≡ bit_xor a d
xor_between a h d = xor_assoc a h (bit_xor h d) ∙ ap (bit_xor a) (sym (xor_assoc h h d) ∙ ap (λ z. bit_xor z d) (xor_self h))
