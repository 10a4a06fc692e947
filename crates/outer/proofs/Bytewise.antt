-- Bytes, lists of bytes, and the field's operations on them.
use Rattle.std.proofs.Common.{◌≡◌, ℕ, zero, suc, ◌-◌, ◌<◌, ◌≤◌, List, [], ◌∷◌, ◌++◌, take, drop, sym, ap, ◌∙◌, arith}
use Rattle.galois.proofs.Lifts.{lift_only, lift_zero, lift_one, lift_mul}
use Rattle.galois.specs.Bytes.{lift, ByteField, FieldRule, lifted, power, raised}
use Rattle.outer.specs.ByteLists.{Bytes}
use Rattle.outer.specs.Decoding.{locator}
use Rattle.outer.proofs.Series.{pow}
use Rattle.outer.proofs.Moments.{pow_not_zero}

pub bytes_nil : Bytes []
bytes_nil k = omega arith

pub bytes_cons : (b : ℕ) (xs : List ℕ) → b < 256 → Bytes xs → Bytes (b ∷ xs)
bytes_cons b xs h k zero = h
bytes_cons b xs h k (suc i) = k i

pub bytes_append : (xs ys : List ℕ) → Bytes xs → Bytes ys → Bytes (xs ++ ys)
bytes_append [] ys h k = k
bytes_append (x ∷ xs) ys h k = bytes_cons x (xs ++ ys) (h 0) (bytes_append xs ys (λ i. h (suc i)) k)

pub bytes_front : (xs ys : List ℕ) → Bytes (xs ++ ys) → Bytes xs
bytes_front [] ys h = bytes_nil
bytes_front (x ∷ xs) ys h = bytes_cons x xs (h 0) (bytes_front xs ys (λ i. h (suc i)))

pub bytes_behind : (xs ys : List ℕ) → Bytes (xs ++ ys) → Bytes ys
bytes_behind [] ys h = h
bytes_behind (x ∷ xs) ys h = bytes_behind xs ys (λ i. h (suc i))

pub bytes_take : (n : ℕ) (xs : List ℕ) → Bytes xs → Bytes (take n xs)
bytes_take zero xs h = bytes_nil
bytes_take (suc n) [] h = bytes_nil
bytes_take (suc n) (x ∷ xs) h = bytes_cons x (take n xs) (h 0) (bytes_take n xs (λ i. h (suc i)))

pub bytes_drop : (n : ℕ) (xs : List ℕ) → Bytes xs → Bytes (drop n xs)
bytes_drop zero xs h = h
bytes_drop (suc n) [] h = bytes_nil
bytes_drop (suc n) (x ∷ xs) h = bytes_drop n xs (λ i. h (suc i))

module _ (f : ByteField) (rule : FieldRule f) where
  open lifted f rule use {zero as 𝟘, mul as ◌⊗◌}

  infixl 70 ◌⊗◌
  pub zero_from_lift : (a : ℕ) → a < 256 → lift a ≡ 𝟘 → a ≡ 0
  zero_from_lift a h e = lift_only a 0 h (omega arith) (e ∙ sym (lift_zero f rule))

  pub power_small : (e : ℕ) → power f e < 256
  unfolding power raised
  power_small zero = omega arith
  power_small (suc e) = rule.mul_small 2 (power f e) (omega arith) (power_small e)

  pub lift-power : (e : ℕ) → lift (power f e) ≡ pow (lifted f rule) (lift 2) e
  unfolding power raised pow
  lift-power zero = lift_one f rule
  lift-power (suc e) = lift_mul f rule 2 (power f e) (omega arith) (power_small e) ∙ ap (λ u. lift 2 ⊗ u) (lift-power e)

  pub power_not_zero : (e : ℕ) → ¬ (lift (power f e) ≡ 𝟘)
  power_not_zero e h = pow_not_zero (lifted f rule) (lift 2) e (λ k. omega (arith, zero_from_lift 2 (omega arith) k)) (sym (lift-power e) ∙ h)

  pub locator_small : (n p : ℕ) → locator f n p < 256
  unfolding locator
  locator_small n p = power_small (n - 1 - p)

  pub lift-locator : (n p : ℕ) → lift (locator f n p) ≡ pow (lifted f rule) (lift 2) (n - 1 - p)
  unfolding locator
  lift-locator n p = lift-power (n - 1 - p)

  pub locators_apart : (n p q : ℕ) → n ≤ 255 → p < n → q < n → lift (locator f n p) ≡ lift (locator f n q) → p ≡ q
  unfolding locator
  locators_apart n p q h k l e =
      omega (
        arith,
        rule.apart (n - 1 - p) (n - 1 - q) (omega arith) (omega arith)
            (lift_only _ _ (power_small (n - 1 - p)) (power_small (n - 1 - q)) e),
      )
