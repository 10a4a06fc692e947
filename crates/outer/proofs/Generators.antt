-- The generator polynomial: its coefficients, and its roots.
use Rattle.std.proofs.Common.{◌≡◌, ℕ, zero, suc, ◌+◌, ◌<◌, ◌≤◌, ◌⊎◌, List, ◌∷◌, length, get_or, replicate, sym, refl, ap, ◌∙◌, ap₂, inl, inr, add-one, arith}
use native.Mathlib.Nat.{le-suc}
use lib.Bits.{bit_xor, xor_self}
use Rattle.std.proofs.lemmas.Bool.{cases_lt}
use Rattle.galois.specs.Bytes.{ByteField, FieldRule}
use Rattle.outer.specs.Lanes.{root}
use Rattle.outer.specs.Words.{value_from}
use Rattle.outer.specs.Encoder.{plus_multiple, generator_of, coefficient}
use Rattle.outer.specs.ByteLists.{Bytes}
use Rattle.outer.proofs.Bytewise.{bytes_cons}
use Rattle.outer.proofs.Zeros.{get_or-zeros}
use Rattle.outer.proofs.Bytewise.{power_small}
use Rattle.outer.proofs.Equations.{mul_zero, zero_mul}
use Rattle.outer.proofs.Places.{value_from_small}
use Rattle.outer.proofs.Values.{length-plus_multiple, get_or-plus_multiple, bytes_plus_multiple, value-plus_multiple}

pub length_generator : (f : ByteField) (r c : ℕ) → length (generator_of f r c) ≡ c
unfolding generator_of
length_generator f r zero = refl
length_generator f r (suc c) =
    length-plus_multiple f (root f r c) (generator_of f r c) (1 ∷ generator_of f r c) ∙ ap suc (length_generator f r c)

-- lanes of zeros hold the coefficients of no root
pub coefficient_none : (f : ByteField) (r l : ℕ) → get_or (replicate 32 0) l 0 ≡ coefficient f r 0 l
unfolding generator_of
coefficient_none f r l = get_or-zeros 32 l

module _ (f : ByteField) (rule : FieldRule f) where
  pub bytes_generator : (r c : ℕ) → Bytes (generator_of f r c)
  unfolding generator_of
  bytes_generator r zero = λ k. omega arith
  bytes_generator r (suc c) =
      let gs = generator_of f r c in
      let hs = bytes_generator r c in
      bytes_plus_multiple f rule (root f r c) (power_small f rule (r + c)) gs (1 ∷ gs) hs (bytes_cons 1 gs (omega arith) hs)

  -- a polynomial times x + a is zero at a, and where the polynomial is
  times_root_zero : (a x : ℕ) (gs : List ℕ) → a < 256 → x < 256 → Bytes gs → (value_from f 1 gs x ≡ 0) ⊎ (x ≡ a)
      → value_from f 1 (plus_multiple f a gs (1 ∷ gs)) x ≡ 0
  unfolding value_from
  times_root_zero a x gs ha hx hs w =
      ap (λ v. value_from f v (plus_multiple f a gs (1 ∷ gs)) x) (sym (ap (bit_xor 1) (mul_zero f rule a ha)))
      ∙ value-plus_multiple f rule a ha 1 0 x gs (1 ∷ gs) (omega arith) (omega arith) hx hs (bytes_cons 1 gs (omega arith) hs) refl
      ∙ ap (λ v. bit_xor (f.mul (value_from f 1 gs x) x) (f.mul a (value_from f (bit_xor v 1) gs x))) (zero_mul f rule x hx)
      ∙ ends w
    where
      ends : (value_from f 1 gs x ≡ 0) ⊎ (x ≡ a) → bit_xor (f.mul (value_from f 1 gs x) x) (f.mul a (value_from f 1 gs x)) ≡ 0
      ends (inl e) = ap (λ v. bit_xor (f.mul v x) (f.mul a v)) e ∙ ap₂ bit_xor (zero_mul f rule x hx) (mul_zero f rule a ha)
      ends (inr e) =
          let v = value_from f 1 gs x in
          ap (λ b. bit_xor b (f.mul a v)) (ap (f.mul v) e ∙ rule.mul_comm v a (value_from_small f rule 1 gs x (omega arith) hs hx) ha) ∙ xor_self (f.mul a v)

  pub generator_zero : (r c j : ℕ) → j < c → value_from f 1 (generator_of f r c) (root f r j) ≡ 0
  unfolding generator_of
  generator_zero r zero j h = absurd (omega arith)
  generator_zero r (suc c) j h =
      times_root_zero (root f r c) (root f r j) (generator_of f r c) (power_small f rule (r + c)) (power_small f rule (r + j)) (bytes_generator r c)
      (which (cases_lt j c) (generator_zero r c j))
    where
      which : (j < c) ⊎ (c ≤ j) → (j < c → value_from f 1 (generator_of f r c) (root f r j) ≡ 0)
          → (value_from f 1 (generator_of f r c) (root f r j) ≡ 0) ⊎ (root f r j ≡ root f r c)
      which (inl l) g = inl (g l)
      which (inr l) g = inr (ap (root f r) (omega arith))

  -- lanes that hold the generator's coefficients, and the lanes of their polynomial times one root more
  pub coefficient_more : (r c a : ℕ) (gs hs : List ℕ) → a ≡ root f r c → ((l : ℕ) → l < 32 → get_or gs l 0 ≡ coefficient f r c l)
      → ((l : ℕ) → l < 32 → get_or hs l 0 ≡ bit_xor (get_or gs l 0) (f.mul a (get_or (1 ∷ gs) l 0)))
      → (l : ℕ) → l < 32 → get_or hs l 0 ≡ coefficient f r (c + 1) l
  unfolding generator_of
  coefficient_more r c a gs hs e told next l h =
      next l h ∙ ap (λ b. bit_xor (get_or gs l 0) (f.mul b (get_or (1 ∷ gs) l 0))) e ∙ ap₂ (λ a b. bit_xor a (f.mul (root f r c) b)) (told l h) (behind l h)
      ∙ sym (get_or-plus_multiple f rule (root f r c) (power_small f rule (r + c)) (generator_of f r c) (1 ∷ generator_of f r c) l (le-suc (length (generator_of f r c))))
      ∙ ap (λ n. coefficient f r n l) (sym (add-one c))
    where
      behind : (k : ℕ) → k < 32 → get_or (1 ∷ gs) k 0 ≡ get_or (1 ∷ generator_of f r c) k 0
      behind zero k = refl
      behind (suc m) k = told m (omega arith)
