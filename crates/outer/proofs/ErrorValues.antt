-- The passes for an error's value, lane by lane, and the divisor.
use Rattle.std.proofs.Common.{◌≡◌, ℕ, ◌+◌, ◌-◌, ◌*◌, ◌<◌, ◌≤◌, ◌⊎◌, List, [], ◌∷◌, ◌++◌, length, get_or, take, sym, refl, ap, ◌∙◌, subst, ap₂, inl, inr, add_comm, arith}
use Rattle.std.proofs.lemmas.Nat.{xor_of_8}
use lib.Bits.{bit_xor}
use Rattle.std.proofs.lemmas.List.{take_more, get_or_past}
use Rattle.std.proofs.lemmas.Bool.{cases_lt}
use Rattle.galois.specs.Bytes.{ByteField, FieldRule, power}
use Rattle.outer.specs.Cutting.{Moved}
use Rattle.outer.specs.Lanes.{lane}
use Rattle.outer.specs.Decoding.{locator, others, sequence, passed, passes, differences, error_value}
use Rattle.outer.proofs.Bytewise.{power_small, locator_small}
use Rattle.outer.proofs.Equations.{mul_zero}
use Rattle.outer.proofs.Passes.{differences_small}
use Rattle.outer.proofs.Turns.{others_push, others_same, passes_push, differences_push}

-- lanes that moved on, the last one too
pub moved_lane : (v t : List ℕ) → length v ≡ 32 → Moved v t → (l : ℕ) → l < 32 → lane t l ≡ lane v (1 + l)
moved_lane v t size it l h = go (cases_lt l 31)
  where
    go : (l < 31) ⊎ (31 ≤ l) → lane t l ≡ lane v (1 + l)
    go (inl k) = it.each l k
    go (inr k) = let end : l ≡ 31 = omega arith in ap (lane t) end ∙ it.last ∙ sym (get_or_past v (1 + l) 0 (omega arith))

-- the sums and the divisor after the passes for the places qs
pub record Passing (f : ByteField) (r n p : ℕ) (qs s sums : List ℕ) (divisor : ℕ) : Type 0 where
  pub lanes : (l : ℕ) → lane sums l ≡ passes f n qs (sequence s) l
  pub divides : divisor ≡ f.mul (power f ((n - 1 - p) * r)) (differences f n qs (locator f n p))

module _ (f : ByteField) (rule : FieldRule f) where
  -- one pass over 32 lanes is one over the sequence, zeros behind the lanes
  lane-passed : (x : ℕ) (s t : List ℕ) (u : ℕ → ℕ) → x < 256 → length s ≡ 32 → length t ≡ 32 → ((l : ℕ) → lane s l ≡ u l)
      → ((l : ℕ) → l < 32 → lane t l ≡ bit_xor (lane s (1 + l)) (f.mul x (lane s l))) → (l : ℕ) → lane t l ≡ passed f x u l
  unfolding passed
  lane-passed x s t u hx hs ht known next l = go (cases_lt l 32)
    where
      is_known : bit_xor (lane s (1 + l)) (f.mul x (lane s l)) ≡ bit_xor (u (l + 1)) (f.mul x (u l))
      is_known = ap₂ (λ a b. bit_xor a (f.mul x b)) (ap (lane s) (add_comm 1 l) ∙ known (l + 1)) (known l)

      go : (l < 32) ⊎ (32 ≤ l) → lane t l ≡ bit_xor (u (l + 1)) (f.mul x (u l))
      go (inl h) = next l h ∙ is_known
      go (inr h) =
          get_or_past t l 0 (omega arith)
          ∙ sym (ap₂ bit_xor (get_or_past s (1 + l) 0 (omega arith)) (ap (f.mul x) (get_or_past s l 0 (omega arith)) ∙ mul_zero f rule x hx))
          ∙ is_known

  module _ (r n p : ℕ) (s : List ℕ) where
    -- no pass yet
    pub passing_none : (d : ℕ) → d ≡ power f ((n - 1 - p) * r) → Passing f r n p (others p []) s s d
    unfolding others passes sequence differences
    passing_none d e = record { lanes = λ l. refl; divides = e ∙ sym (rule.mul_one _ (power_small f rule ((n - 1 - p) * r))) }

    -- one pass more, for another place
    passing_push : (qs sums t : List ℕ) (d k q : ℕ) → length sums ≡ 32 → length t ≡ 32
        → ((l : ℕ) → l < 32 → lane t l ≡ bit_xor (lane sums (1 + l)) (f.mul (locator f n q) (lane sums l)))
        → k ≡ f.mul d (bit_xor (locator f n p) (locator f n q)) → Passing f r n p qs s sums d → Passing f r n p (qs ++ q ∷ []) s t k
    passing_push qs sums t d k q hs ht next e it =
        let x = locator f n q in
        let y = locator f n p in
        let hx = locator_small f rule n q in
        let hy = locator_small f rule n p in
        record {
          lanes = λ l. lane-passed x sums t (passes f n qs (sequence s)) hx hs ht it.lanes next l ∙ sym (ap (λ u. u l) (passes_push f n qs q (sequence s)));
          divides = e ∙ ap (λ v. f.mul v (bit_xor y x)) it.divides
              ∙ rule.mul_assoc _ _ _ (power_small f rule ((n - 1 - p) * r)) (differences_small f rule n qs y hy) (xor_of_8 y x hy hx)
              ∙ ap (f.mul (power f ((n - 1 - p) * r))) (sym (differences_push f rule n qs q y hy));
        }

    module _ (zs sums t : List ℕ) (d k i q : ℕ) (inside : i < length zs) (is : get_or zs i 0 ≡ q) (it : Passing f r n p (others p (take i zs)) s sums d) where
      next_place : take (i + 1) zs ≡ take i zs ++ q ∷ []
      next_place = take_more zs i 0 inside ∙ ap (λ z. take i zs ++ z ∷ []) is

      -- the next place of the list, if it is another than p
      pub passing_other : ¬ (q ≡ p) → length sums ≡ 32 → length t ≡ 32
          → ((l : ℕ) → l < 32 → lane t l ≡ bit_xor (lane sums (1 + l)) (f.mul (locator f n q) (lane sums l)))
          → k ≡ f.mul d (bit_xor (locator f n p) (locator f n q)) → Passing f r n p (others p (take (i + 1) zs)) s t k
      passing_other ne hs ht next e =
          subst (λ qs. Passing f r n p qs s t k) (sym (ap (others p) next_place ∙ others_push p q (take i zs) ne)) (passing_push (others p (take i zs)) sums t d k q hs ht next e it)

      -- and if it is p
      pub passing_same : q ≡ p → t ≡ sums → k ≡ d → Passing f r n p (others p (take (i + 1) zs)) s t k
      passing_same same e u =
          subst (λ qs. Passing f r n p qs s t k) (sym (ap (others p) next_place ∙ others_same p q (take i zs) same))
          (record { lanes = λ l. ap (λ v. lane v l) e ∙ it.lanes l; divides = u ∙ it.divides })

    -- the passes of all others leave the error's value
    pub passing_value : (zs sums : List ℕ) (d : ℕ) → Passing f r n p (others p zs) s sums d → f.mul (lane sums 0) (f.inv d) ≡ error_value f r n zs s p
    unfolding error_value
    passing_value zs sums d it = ap₂ (λ a b. f.mul a (f.inv b)) (it.lanes 0) it.divides
