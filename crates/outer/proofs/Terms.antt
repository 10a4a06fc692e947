-- The terms of a polynomial at a place, and at the next.
use Rattle.std.proofs.Common.{◌≡◌, ℕ, zero, suc, ◌+◌, ◌-◌, ◌*◌, ◌%◌, ◌<◌, ◌≤◌, Bool, true, false, cond, eqb, List, [], ◌∷◌, ◌++◌, length, get_or, take, filter, sym, refl, ap, ◌∙◌, ap₂, add-zero, add-mul, one-mul, mul-zero, mul-add, arith, length-append}
use lib.Bits.{bit_xor, xor_zero_r, xor_zero_l, xor_assoc}
use lib.Lanes.{fold_l}
use Rattle.std.specs.List.{range_with_len}
use Rattle.std.proofs.lemmas.List.{append-nil}
use Rattle.galois.specs.Bytes.{ByteField, FieldRule, power, raised}
use Rattle.galois.specs.Raising.{power_add, power_small, power_remainder}
use Rattle.outer.specs.ByteLists.{Bytes}
use Rattle.outer.specs.Lanes.{lane, root}
use Rattle.outer.specs.Decoding.{locator, polynomial_at, is_located, locator_zeros}
use Rattle.outer.proofs.Equations.{mul_zero as times_zero}
use Rattle.outer.proofs.Kept.{all_always, kept_same}
use Rattle.outer.proofs.Passes.{polynomial_small}
use Rattle.outer.proofs.Turns.{kept_push}

-- the places of a test, if at most 16, with one place more that passes it
pub listed_push : (t : ℕ → Bool) (p : ℕ) (old new : List ℕ) → (length (filter t (range_with_len 0 p)) ≤ 16 → old ≡ filter t (range_with_len 0 p)) → t p ≡ true
    → (length old < 16 → new ≡ old ++ p ∷ []) → length (filter t (range_with_len 0 (p + 1))) ≤ 16 → new ≡ filter t (range_with_len 0 (p + 1))
listed_push t p old new known yes-here more few =
    let whole : filter t (range_with_len 0 (p + 1)) ≡ filter t (range_with_len 0 p) ++ p ∷ [] = kept_push t p ∙ ap (λ b. filter t (range_with_len 0 p) ++ cond b (p ∷ []) []) yes-here in
    let size : length (filter t (range_with_len 0 p)) < 16 = omega (arith, ap length whole, length-append (filter t (range_with_len 0 p)) (p ∷ [])) in
    let so_far = known (omega arith) in
    more (omega (arith, ap length so_far)) ∙ ap (λ l. l ++ p ∷ []) so_far ∙ sym whole

-- and with one that does not
pub listed_stay : (t : ℕ → Bool) (p : ℕ) (old : List ℕ) → (length (filter t (range_with_len 0 p)) ≤ 16 → old ≡ filter t (range_with_len 0 p)) → t p ≡ false
    → length (filter t (range_with_len 0 (p + 1))) ≤ 16 → old ≡ filter t (range_with_len 0 (p + 1))
listed_stay t p old known not-here few =
    let whole : filter t (range_with_len 0 (p + 1)) ≡ filter t (range_with_len 0 p)
    = kept_push t p ∙ ap (λ b. filter t (range_with_len 0 p) ++ cond b (p ∷ []) []) not-here ∙ append-nil (filter t (range_with_len 0 p)) in
    known (omega (arith, ap length whole)) ∙ sym whole

module _ (f : ByteField) (rule : FieldRule f) where
  -- the term of degree l at the power m of 02
  abbrev pub term : List ℕ → ℕ → ℕ → ℕ
  term cs m l = f.mul (power f (m * l)) (lane cs l)

  -- the power m of 02 once more
  pub power_more : (m l x : ℕ) → x ≡ power f (m * l) → f.mul x (power f m) ≡ power f (m * (l + 1))
  power_more m l x e =
      let one_on : m * l + m ≡ m * (l + 1) = sym (mul-add m l 1 ∙ ap (λ k. m * l + k) (omega arith)) in
      ap (λ y. f.mul y (power f m)) e ∙ sym (power_add f rule (m * l) m) ∙ ap (power f) one_on

  pub power_none : (m : ℕ) → 1 ≡ power f (m * 0)
  unfolding power raised
  power_none m = sym (ap (power f) (mul-zero m))

  -- the next root is the one before it times 02
  pub root_more : (r l x : ℕ) → x ≡ root f r l → f.mul x 2 ≡ root f r (l + 1)
  unfolding power raised
  root_more r l x e =
      let one_on : suc (r + l) ≡ r + (l + 1) = omega arith in
      ap (λ y. f.mul y 2) e ∙ rule.mul_comm (power f (r + l)) 2 (power_small f rule (r + l)) (omega arith) ∙ ap (power f) one_on

  -- one power of 02 less: each term times the power 254 as often as its degree says
  pub term_halved : (cs : List ℕ) (m l : ℕ) → lane cs l < 256 → f.mul (power f (254 * l)) (term cs (m + 1) l) ≡ term cs m l
  term_halved cs m l h =
      let x = power f (254 * l) in
      let y = power f ((m + 1) * l) in
      let exponent : (m + 1) * l ≡ m * l + l = add-mul m 1 l ∙ ap (λ k. m * l + k) (one-mul l) in
      let rounds : (254 * l + (m + 1) * l) % 255 ≡ m * l % 255 = ap (λ k. (254 * l + k) % 255) exponent ∙ omega arith in
      sym (rule.mul_assoc x y (lane cs l) (power_small f rule (254 * l)) (power_small f rule ((m + 1) * l)) h)
      ∙ ap (λ z. f.mul z (lane cs l))
      (sym (power_add f rule (254 * l) ((m + 1) * l)) ∙ sym (power_remainder f rule (254 * l + (m + 1) * l)) ∙ ap (power f) rounds ∙ power_remainder f rule (m * l))

  -- terms from degree j on, summed, are a power times the polynomial of their coefficients
  sum-from : (m j a : ℕ) (cs ts : List ℕ) → Bytes cs → length ts ≡ length cs
      → ((i : ℕ) → i < length cs → get_or ts i 0 ≡ f.mul (power f (m * (j + i))) (get_or cs i 0))
      → fold_l bit_xor a ts ≡ bit_xor a (f.mul (power f (m * j)) (polynomial_at f cs (power f m)))
  unfolding polynomial_at
  sum-from m j a [] [] hc e each = sym (ap (bit_xor a) (times_zero f rule (power f (m * j)) (power_small f rule (m * j))) ∙ xor_zero_r a)
  sum-from m j a [] (t ∷ ts) hc e each = absurd (omega arith)
  sum-from m j a (c ∷ cs) [] hc e each = absurd (omega arith)
  sum-from m j a (c ∷ cs) (t ∷ ts) hc e each =
      let x = power f m in
      let y = power f (m * j) in
      let p = polynomial_at f cs x in
      let hx : x < 256 = power_small f rule m in
      let hy : y < 256 = power_small f rule (m * j) in
      let hp : p < 256 = polynomial_small f rule cs x (λ i. hc (suc i)) hx in
      let first : t ≡ f.mul y c = each 0 (omega arith) ∙ ap (λ k. f.mul (power f (m * k)) c) (add-zero j) in
      sum-from m (j + 1) (bit_xor a t) cs ts (λ i. hc (suc i)) (omega arith)
      (λ i h. let same : j + suc i ≡ j + 1 + i = omega arith in each (suc i) (omega arith) ∙ ap (λ k. f.mul (power f (m * k)) (get_or cs i 0)) same)
      ∙ xor_assoc a t (f.mul (power f (m * (j + 1))) p)
      ∙ ap (bit_xor a)
      (ap₂ bit_xor first (ap (λ z. f.mul z p) (sym (power_more m j y refl)) ∙ rule.mul_assoc y x p hy hx hp)
      ∙ sym (rule.distrib y c (f.mul x p) hy (hc 0) (rule.mul_small x p hx hp)))

  -- all terms, summed, are the value of the polynomial
  pub terms_sum : (m : ℕ) (cs ts : List ℕ) → Bytes cs → length ts ≡ length cs → ((l : ℕ) → l < length cs → lane ts l ≡ term cs m l)
      → fold_l bit_xor 0 ts ≡ polynomial_at f cs (power f m)
  terms_sum m cs ts hc e each =
      let p = polynomial_at f cs (power f m) in
      let hp : p < 256 = polynomial_small f rule cs (power f m) hc (power_small f rule m) in
      sum-from m 0 0 cs ts hc e (λ i h. each i h ∙ ap (λ k. f.mul (power f (m * k)) (get_or cs i 0)) (omega arith))
      ∙ xor_zero_l (f.mul (power f (m * 0)) p)
      ∙ ap (λ y. f.mul y p) (sym (power_none m)) ∙ rule.mul_comm 1 p (omega arith) hp ∙ rule.mul_one p hp

  -- zeros behind the coefficients change nothing
  pub polynomial-padded : (k : ℕ) (cs : List ℕ) (x : ℕ) → x < 256 → ((l : ℕ) → k ≤ l → lane cs l ≡ 0) → polynomial_at f (take k cs) x ≡ polynomial_at f cs x
  unfolding polynomial_at
  polynomial-padded zero [] x h z = refl
  polynomial-padded zero (c ∷ cs) x h z =
      sym (ap₂ bit_xor (z 0 (omega arith)) (ap (f.mul x) (sym (polynomial-padded zero cs x h (λ l k. z (suc l) (omega arith)))) ∙ times_zero f rule x h))
  polynomial-padded (suc k) [] x h z = refl
  polynomial-padded (suc k) (c ∷ cs) x h z = ap (λ v. bit_xor c (f.mul x v)) (polynomial-padded k cs x h (λ l i. z (suc l) (omega arith)))

  pub locator_zeros-padded : (n k : ℕ) (cs : List ℕ) → ((l : ℕ) → k ≤ l → lane cs l ≡ 0) → locator_zeros f n (take k cs) ≡ locator_zeros f n cs
  unfolding locator_zeros is_located locator
  locator_zeros-padded n k cs z =
      kept_same (is_located f n (take k cs)) (is_located f n cs) (range_with_len 0 n) (all_always _ (λ p. ap (λ v. eqb v 0) (polynomial-padded k cs (locator f n p) (power_small f rule (n - 1 - p)) z)) (range_with_len 0 n))
