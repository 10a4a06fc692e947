-- The table of the powers of 02 in field 1, and that of their exponents.
use Rattle.std.proofs.Common.{◌≡◌, ℕ, zero, suc, ◌+◌, ◌*◌, ◌/◌, ◌%◌, ◌^◌, ◌<◌, Bool, true, ◌&&◌, eqb, List, [], ◌∷◌, get_or, sym, refl, ap, ◌∙◌, add-zero, add-suc, suc-add, zero-add, div-one, arith}
use native.Mathlib.Nat.{div-div-eq-div-mul, pow-succ'}
use Rattle.std.proofs.lemmas.Bool.{and_parts, eqb-true}
use Rattle.galois.specs.Bytes.{power, Exponent}
use Rattle.galois.specs.Polynomials.{times_z, field_1}
use Rattle.galois.specs.Raising.{power_remainder}
use Rattle.galois.specs.Rules.{power_shifted, primitive_1, rule_1}
use Rattle.galois.specs.Shifts.{shifted, shifted_swap}

-- the n bytes a, a z, a z^2 and so on
unfoldable pub walk : ℕ → ℕ → ℕ → List ℕ
walk p zero a = []
walk p (suc n) a = a ∷ walk p n (times_z p a)

walk_at : (p n a k : ℕ) → k < n → get_or (walk p n a) k 0 ≡ shifted p k a
unfolding walk shifted
walk_at p zero a k h = absurd (omega arith)
walk_at p (suc n) a zero h = refl
walk_at p (suc n) a (suc k) h = walk_at p n (times_z p a) k (omega arith) ∙ sym (shifted_swap p 1 k a)

-- a number whose digit b to the base 256 is the exponent of b: k for a, k + 1 for a z, and so on, n of them
unfoldable pub exponents : ℕ → ℕ → ℕ → ℕ → ℕ
exponents p zero a k = 0
exponents p (suc n) a k = exponents p n (times_z p a) (suc k) + k * 256 ^ a

-- the lowest n digits of a number to the base 256, lowest first
unfoldable pub digits : ℕ → ℕ → List ℕ
digits zero s = []
digits (suc n) s = s % 256 ∷ digits n (s / 256)

digits-at : (n s i : ℕ) → i < n → get_or (digits n s) i 0 ≡ s / 256 ^ i % 256
unfolding digits
digits-at zero s i h = absurd (omega arith)
digits-at (suc n) s zero h = ap (λ q. q % 256) (sym (div-one s))
digits-at (suc n) s (suc i) h = digits-at n (s / 256) i (omega arith) ∙ ap (λ q. q % 256) (div-div-eq-div-mul s 256 (256 ^ i) ∙ ap (λ b. s / b) (sym (pow-succ' 256 i)))

-- digit a of a number is k, that of a z is k + 1, and so on, n of them
counts : ℕ → ℕ → ℕ → ℕ → ℕ → Bool
counts p s zero a k = true
counts p s (suc n) a k = eqb (s / 256 ^ a % 256) k && counts p s n (times_z p a) (suc k)

counts_at : (p s n a k i : ℕ) → counts p s n a k ≡ true → i < n → s / 256 ^ shifted p i a % 256 ≡ k + i
unfolding counts shifted
counts_at p s zero a k i t h = absurd (omega arith)
counts_at p s (suc n) a k zero t h = eqb-true (s / 256 ^ a % 256) k (and_parts _ _ t).0 ∙ sym (add-zero k)
counts_at p s (suc n) a k (suc i) t h =
    ap (λ b. s / 256 ^ b % 256) (shifted_swap p 1 i a) ∙ counts_at p s n (times_z p a) (suc k) i (and_parts _ _ t).1 (omega arith)
    ∙ suc-add k i ∙ sym (add-suc k i)

exponents-count : counts 0x1D (exponents 0x1D 255 1 0) 255 1 0 ≡ true
unfolding counts exponents times_z
exponents-count = refl

-- the table of the powers of field 1
unfoldable pub powers : List ℕ
powers = walk 0x1D 255 1

pub powers-at : (e : ℕ) → get_or powers (e % 255) 0 ≡ power field_1 e
unfolding powers
powers-at e = walk_at 0x1D 255 1 (e % 255) (omega arith) ∙ sym (power_shifted 0x1D primitive_1 (e % 255)) ∙ power_remainder field_1 rule_1 e

-- the table of the exponents of field 1
unfoldable pub logarithms : List ℕ
logarithms = digits 256 (exponents 0x1D 255 1 0)

pub logarithms-at : (a : ℕ) → a < 256 → ¬ (a ≡ 0) → Exponent field_1 a (get_or logarithms a 0)
unfolding logarithms
logarithms-at a h n =
    let (e, x) = rule_1.generated a h n in
    let s = exponents 0x1D 255 1 0 in
    let is : get_or (digits 256 s) a 0 ≡ e
    = digits-at 256 s a h ∙ ap (λ b. s / 256 ^ b % 256) (sym (sym (power_shifted 0x1D primitive_1 e) ∙ x.value)) ∙ counts_at 0x1D s 255 1 0 e exponents-count x.small ∙ zero-add e in
    record { small = omega arith; value = ap (power field_1) is ∙ x.value }
