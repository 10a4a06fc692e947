-- Code words: two of them differ in more places than there are check bytes, and one begins with any data.
use Rattle.std.proofs.Common.{◌≡◌, ℕ, zero, suc, ◌+◌, ◌<◌, ◌≤◌, Bool, true, not, eqb, List, ◌++◌, length, get_or, replicate, filter, unwrap_or, sym, refl, ap, ◌∙◌, arith, length-append}
use native.Mathlib.Decide.{ℕ_discrete}
use Rattle.std.specs.List.{range_with_len, AllByRecursion as All}
use Rattle.std.proofs.lemmas.List.{append_cancel_left, ext_get_or}
use Rattle.std.proofs.lemmas.Bool.{eqb-true, eq-eqb, not-true, and_parts, and_from}
use Rattle.galois.proofs.Lifts.{lift_only}
use Rattle.galois.specs.Bytes.{lift, ByteField, FieldRule, lifted}
use Rattle.outer.specs.ByteLists.{Bytes}
use Rattle.outer.specs.Words.{syndrome, CodeWord, is_code_word, distance, encoded}
use Rattle.outer.specs.Decoding.{locator}
use Rattle.outer.proofs.Series.{pow, wrong}
use Rattle.outer.proofs.Kept.{all_always, either_way, kept_fewer}
use Rattle.outer.proofs.Rings.{add_self, cancel_right, is_zero_false}
use Rattle.outer.proofs.Moments.{pow_not_zero, same_from_moments}
use Rattle.outer.proofs.Bytewise.{bytes_append, power_not_zero}
use Rattle.outer.proofs.Exhausted.{first_list_only}
use Rattle.outer.proofs.Distances.{distance_kept, distance_behind, distance_small}
use Rattle.outer.proofs.Places.{at_place, weighted, syndrome-moment, places_apart}

module _ (f : ByteField) (rule : FieldRule f) where
  open lifted f rule use {zero as 𝟘, one as 𝟙, add as ◌⊕◌, mul as ◌⊗◌, inv}

  infixl 60 ◌⊕◌
  infixl 70 ◌⊗◌
  -- the weight of a place is not zero
  pub weight_not_zero : (r n p : ℕ) → ¬ (pow (lifted f rule) (lift (locator f n p)) r ≡ 𝟘)
  unfolding locator
  weight_not_zero r n p = pow_not_zero (lifted f rule) (lift (locator f n p)) r (power_not_zero f rule _)

  -- where weighted bytes differ, the words differ
  pub wrong-distance : (r n : ℕ) (a b : List ℕ) → length a ≡ n → length b ≡ n
      → length (wrong (lifted f rule) (λ p. lift (locator f n p)) (λ p. weighted f rule r n a p ⊕ weighted f rule r n b p) (range_with_len 0 n)) ≤ distance a b
  unfolding weighted
  wrong-distance r n a b ha hb =
      let differs : ℕ → Bool = λ p. not (eqb (get_or a p 0) (get_or b p 0)) in
      let count : distance a b ≡ length (filter differs (range_with_len 0 (length a)))
      = distance_kept a b 0 differs (ha ∙ sym hb) (λ k p l e. let same : k ≡ p = omega arith in ap (λ q. not (eqb (get_or a q 0) (get_or b q 0))) (sym same)) in
      let fewer : length (wrong (lifted f rule) (λ p. lift (locator f n p)) (λ p. weighted f rule r n a p ⊕ weighted f rule r n b p) (range_with_len 0 n)) ≤ length (filter differs (range_with_len 0 n))
      = kept_fewer _ differs (range_with_len 0 n) (all_always _ (λ p h. either_way (eqb (get_or a p 0) (get_or b p 0))
      (λ e. absurd (is_zero_false (lifted f rule) _ (not-true _ h)
      (ap (λ u. lift u ⊗ pow (lifted f rule) (lift (locator f n p)) r ⊕ lift (get_or b p 0) ⊗ pow (lifted f rule) (lift (locator f n p)) r) (eqb-true (get_or a p 0) (get_or b p 0) e)
      ∙ add_self (lifted f rule) _)))
      (λ e. ap not e)) (range_with_len 0 n)) in
      omega (arith, ap (λ m. length (filter differs (range_with_len 0 m))) ha)

  -- two code words that differ in at most as many places as there are check bytes are one
  pub code_words_apart : (r c n : ℕ) (a b : List ℕ) → n ≤ 255 → length a ≡ n → length b ≡ n → Bytes a → Bytes b → CodeWord f r c a → CodeWord f r c b → distance a b ≤ c → a ≡ b
  unfolding weighted
  code_words_apart r c n a b small la lb ha hb ca cb near =
      let F = lifted f rule in
      let same : All (λ p. weighted f rule r n a p ≡ weighted f rule r n b p) (range_with_len 0 n)
      = same_from_moments F (λ p. lift (locator f n p)) (range_with_len 0 n) (weighted f rule r n a) (weighted f rule r n b) c (places_apart f rule n small)
      (omega (arith, wrong-distance r n a b la lb))
      (λ j h. sym (syndrome-moment f rule r n a j la ha) ∙ ap lift (ca j h ∙ sym (cb j h)) ∙ syndrome-moment f rule r n b j lb hb) in
      ext_get_or 0 a b (la ∙ sym lb) (λ p h. lift_only _ _ (ha p) (hb p)
      (cancel_right F _ _ _ (weight_not_zero r n p) (at_place (λ q. weighted f rule r n a q ≡ weighted f rule r n b q) n same p (omega arith))))

  pub code_word_from_test : (r c : ℕ) (w : List ℕ) → is_code_word f r c w ≡ true → CodeWord f r c w
  unfolding is_code_word
  code_word_from_test r zero w e j h = absurd (omega arith)
  code_word_from_test r (suc c) w e j h = go (ℕ_discrete j c) (code_word_from_test r c w (and_parts _ _ e).0 j)
    where
      go : Dec (j ≡ c) → (j < c → syndrome f r w j ≡ 0) → syndrome f r w j ≡ 0
      go (yes d) k = ap (syndrome f r w) d ∙ eqb-true _ _ (and_parts (is_code_word f r c w) (eqb (syndrome f r w c) 0) e).1
      go (no d) k = k (omega arith)

  pub test_from_code_word : (r c : ℕ) (w : List ℕ) → CodeWord f r c w → is_code_word f r c w ≡ true
  unfolding is_code_word
  test_from_code_word r zero w h = refl
  test_from_code_word r (suc c) w h = and_from _ _ (test_from_code_word r c w (λ j k. h j (omega arith))) (eq-eqb _ _ (h c (omega arith)))

  -- the code word that begins with the data is any code word that does
  pub encoded_is : (r c : ℕ) (xs cs : List ℕ) → length xs + c ≤ 255 → length cs ≡ c → Bytes xs → Bytes cs → CodeWord f r c (xs ++ cs) → encoded f r c xs ≡ xs ++ cs
  unfolding encoded
  encoded_is r c xs cs small lc hx hc code =
      ap (λ o. xs ++ unwrap_or o (replicate c 0))
      (first_list_only c (λ ds. is_code_word f r c (xs ++ ds)) cs lc hc (test_from_code_word r c (xs ++ cs) code)
      (λ ds ld hd t. append_cancel_left xs ds cs
      (code_words_apart r c (length xs + c) (xs ++ ds) (xs ++ cs) small (omega (arith, length-append xs ds)) (omega (arith, length-append xs cs))
      (bytes_append xs ds hx hd) (bytes_append xs cs hx hc) (code_word_from_test r c (xs ++ ds) t) code
      (omega (arith, distance_behind xs ds cs, distance_small ds cs)))))
