-- Words by places: a syndrome is a moment of the bytes.
use Rattle.std.proofs.Common.{◌≡◌, ℕ, zero, suc, ◌+◌, ◌-◌, ◌<◌, ◌≤◌, List, [], ◌∷◌, length, get_or, sym, ap, ◌∙◌, subst, ap₂, zero-add as zero-plus, arith}
use Rattle.std.proofs.lemmas.Nat.{xor_of_8}
use lib.Bits.{bit_xor}
use Rattle.std.specs.List.{range_with_len, AllByRecursion as All}
use Rattle.std.proofs.lemmas.List.FromFn.{length-range_with_len, get_or-range_with_len}
use Rattle.std.proofs.ByRecursion.{All-get_or}
use Rattle.galois.proofs.Lifts.{lift_zero, lift_xor, lift_mul}
use Rattle.galois.specs.Bytes.{Byte, lift, ByteField, FieldRule, lifted, power}
use Rattle.outer.specs.ByteLists.{Bytes}
use Rattle.outer.specs.Words.{value_from, value, syndrome}
use Rattle.outer.specs.Decoding.{locator}
use Rattle.outer.proofs.Series.{pow, sum, moment, Apart}
use Rattle.outer.proofs.Rings.{ring, one_more_power}
use Rattle.outer.proofs.Moments.{steps, pow_suc, sum_cons, sum_nil, pow_add, pow_swap}
use Rattle.outer.proofs.Bytewise.{power_small, lift-power, lift-locator, locators_apart}

-- what holds at each place below n holds of each element of the list of places
pub all_places : (P : ℕ → Type 0) (a n : ℕ) → ((p : ℕ) → a ≤ p → p < a + n → P p) → All P (range_with_len a n)
all_places P a zero h = tt
all_places P a (suc n) h = (h a (omega arith) (omega arith), all_places P (a + 1) n (λ p k l. h p (omega arith) (omega arith)))

pub at_place : (P : ℕ → Type 0) (n : ℕ) → All P (range_with_len 0 n) → (p : ℕ) → p < n → P p
at_place P n h p k = subst P (get_or-range_with_len 0 n p 0 k ∙ zero-plus p) (All-get_or P (range_with_len 0 n) p 0 (omega (arith, length-range_with_len 0 n)) h)

module _ (f : ByteField) (rule : FieldRule f) where
  open lifted f rule use {zero as 𝟘, one as 𝟙, add as ◌⊕◌, mul as ◌⊗◌, inv}

  infixl 60 ◌⊕◌
  infixl 70 ◌⊗◌
  pub value_from_small : (v : ℕ) (bs : List ℕ) (x : ℕ) → v < 256 → Bytes bs → x < 256 → value_from f v bs x < 256
  unfolding value_from
  value_from_small v [] x h k l = h
  value_from_small v (b ∷ bs) x h k l =
      value_from_small (bit_xor (f.mul v x) b) bs x (xor_of_8 (f.mul v x) b (rule.mul_small v x h l) (k 0)) (λ i. k (suc i)) l

  -- the sum of a word's bytes, each with its power of x
  unfoldable pub byte_sum : List ℕ → Byte → Byte
  byte_sum [] x = 𝟘
  byte_sum (b ∷ bs) x = lift b ⊗ pow (lifted f rule) x (length bs) ⊕ byte_sum bs x

  value-byte_sum : (v : ℕ) (bs : List ℕ) (x : ℕ) → v < 256 → Bytes bs → x < 256
      → lift (value_from f v bs x) ≡ lift v ⊗ pow (lifted f rule) (lift x) (length bs) ⊕ byte_sum bs (lift x)
  unfolding value_from byte_sum
  value-byte_sum v [] x h k l = simp (steps, ring)
  value-byte_sum v (b ∷ bs) x h k l =
      let next = bit_xor (f.mul v x) b in
      let read : lift next ≡ lift v ⊗ lift x ⊕ lift b = lift_xor f rule (f.mul v x) b ∙ ap (λ u. u ⊕ lift b) (lift_mul f rule v x h l) in
      value-byte_sum next bs x (xor_of_8 (f.mul v x) b (rule.mul_small v x h l) (k 0)) (λ i. k (suc i)) l
      ∙ ap (λ u. u ⊗ pow (lifted f rule) (lift x) (length bs) ⊕ byte_sum bs (lift x)) read
      ∙ one_more_power (lifted f rule) (lift v) (lift b) (lift x) (pow (lifted f rule) (lift x) (length bs)) (byte_sum bs (lift x))
      ∙ ap (λ u. lift v ⊗ u ⊕ byte_sum (b ∷ bs) (lift x)) (sym (pow_suc (lifted f rule) (lift x) (length bs)))

  -- the same sum over places from a on, by any function with those terms
  byte_sum_by_places : (bs : List ℕ) (x : Byte) (a : ℕ) (g : ℕ → Byte)
      → ((k p i : ℕ) → k + suc i ≡ length bs → a + k ≡ p → g p ≡ lift (get_or bs k 0) ⊗ pow (lifted f rule) x i) → byte_sum bs x ≡ sum (lifted f rule) (range_with_len a (length bs)) g
  unfolding byte_sum
  byte_sum_by_places [] x a g h = sym (sum_nil (lifted f rule) g)
  byte_sum_by_places (b ∷ bs) x a g h =
      ap₂ ◌⊕◌ (sym (h 0 a (length bs) (omega arith) (omega arith))) (byte_sum_by_places bs x (a + 1) g (λ k p i e d. h (suc k) p i (omega arith) (omega arith)))
      ∙ sym (sum_cons (lifted f rule) a (range_with_len (a + 1) (length bs)) g)

  -- the byte at a place, times the power r of the place's locator
  unfoldable pub weighted : ℕ → ℕ → List ℕ → ℕ → Byte
  weighted r n w p = lift (get_or w p 0) ⊗ pow (lifted f rule) (lift (locator f n p)) r

  pub syndrome-byte_sum : (r : ℕ) (w : List ℕ) (j : ℕ) → Bytes w → lift (syndrome f r w j) ≡ byte_sum w (lift (power f (r + j)))
  unfolding syndrome value
  syndrome-byte_sum r w j h =
      let x = power f (r + j) in
      value-byte_sum 0 w x (omega arith) h (power_small f rule (r + j))
      ∙ ap (λ u. u ⊗ pow (lifted f rule) (lift x) (length w) ⊕ byte_sum w (lift x)) (lift_zero f rule) ∙ (simp ring)

  syndrome_here : (r : ℕ) (w : List ℕ) (j : ℕ) → Bytes w
      → lift (syndrome f r w j) ≡ moment (lifted f rule) (λ p. lift (locator f (length w) p)) (range_with_len 0 (length w)) (weighted r (length w) w) j
  unfolding moment weighted
  syndrome_here r w j h =
      let F = lifted f rule in
      let x = power f (r + j) in
      syndrome-byte_sum r w j h
      ∙ byte_sum_by_places w (lift x) 0 _ (λ k p i e d.
      let place : length w - 1 - p ≡ i = omega arith in
      let same : k ≡ p = omega arith in
      let here : lift (locator f (length w) p) ≡ pow F (lift 2) i = lift-locator f rule (length w) p ∙ ap (pow F (lift 2)) place in
      let powers : pow F (lift (locator f (length w) p)) r ⊗ pow F (lift (locator f (length w) p)) j ≡ pow F (lift x) i
      = sym (pow_add F (lift (locator f (length w) p)) r j) ∙ ap (λ u. pow F u (r + j)) here ∙ pow_swap F (lift 2) i (r + j)
      ∙ ap (λ u. pow F u i) (sym (lift-power f rule (r + j))) in
      F.mul_assoc (lift (get_or w p 0)) (pow F (lift (locator f (length w) p)) r) (pow F (lift (locator f (length w) p)) j)
      ∙ ap₂ ◌⊗◌ (ap (λ q. lift (get_or w q 0)) (sym same)) powers)

  -- a syndrome is the moment of the weighted bytes
  pub syndrome-moment : (r n : ℕ) (w : List ℕ) (j : ℕ) → length w ≡ n → Bytes w
      → lift (syndrome f r w j) ≡ moment (lifted f rule) (λ p. lift (locator f n p)) (range_with_len 0 n) (weighted r n w) j
  syndrome-moment r n w j e h =
      subst (λ m. lift (syndrome f r w j) ≡ moment (lifted f rule) (λ p. lift (locator f m p)) (range_with_len 0 m) (weighted r m w) j) e (syndrome_here r w j h)

  pub places_apart : (n : ℕ) → n ≤ 255 → Apart (lifted f rule) (λ p. lift (locator f n p)) (range_with_len 0 n)
  places_apart n h = go 0 n (omega arith)
    where
      go : (a m : ℕ) → a + m ≤ n → Apart (lifted f rule) (λ p. lift (locator f n p)) (range_with_len a m)
      go a zero k = tt
      go a (suc m) k =
          (all_places _ (a + 1) m (λ p l i e. let same : p ≡ a = locators_apart f rule n p a h (omega arith) (omega arith) e in omega arith), go (a + 1) m (omega arith))
