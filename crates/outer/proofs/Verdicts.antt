-- The decoder finds the near code word, or shows that there is none.
use Rattle.std.proofs.Common.{◌≡◌, ℕ, zero, suc, ◌+◌, ◌*◌, ◌<◌, ◌≤◌, Bool, true, false, cond, ◌&&◌, eqb, List, [], ◌∷◌, map, length, get_or, filter, sym, refl, ap, ◌∙◌, subst, arith}
use Rattle.std.proofs.lemmas.Nat.{xor_of_8}
use lib.Bits.{bit_xor, xor_zero_r}
use lib.ListN.{length-map}
use Rattle.std.specs.List.{range_with_len, AllByRecursion as All}
use Rattle.std.proofs.ByRecursion.{all_kept_by, kept_by_passes}
use Rattle.std.proofs.lemmas.List.{ext_get_or}
use Rattle.std.proofs.lemmas.Bool.{eqb-true, eqb-false, eq-eqb, ne_eqb, not-true, and_from, and_right}
use Rattle.galois.proofs.Lifts.{lift_only, lift_zero, lift_xor}
use Rattle.galois.specs.Bytes.{Byte, lift, ByteField, FieldRule, lifted}
use Rattle.outer.specs.ByteLists.{Bytes}
use Rattle.outer.specs.Words.{CodeWord, distance}
use Rattle.outer.specs.Nearest.{Near}
use Rattle.outer.specs.Decoding.{locator, is_located, locator_zeros, is_other, others, error_value, corrected, errors}
use Rattle.outer.specs.Verdict.{Located, Verdict, Decodes}
use Rattle.outer.proofs.Series.{pow, eval, dot, moment, wrong, factors}
use Rattle.outer.proofs.Kept.{all_both, kept_both, kept_alone}
use Rattle.outer.proofs.Rings.{zero_add, same_from_sum, cancel, cancel_right, divided, added_back}
use Rattle.outer.proofs.Moments.{moment_add, factors_not_zero, few_kept, zero_if_not_kept, turned-value}
use Rattle.outer.proofs.Bytewise.{zero_from_lift, locator_small, locators_apart}
use Rattle.outer.proofs.Places.{all_places, at_place, weighted, syndrome-moment, places_apart}
use Rattle.outer.proofs.CodeWords.{weight_not_zero, wrong-distance}
use Rattle.outer.proofs.Corrections.{length-corrected, bytes_corrected, errors_few, corrected-at, distance-corrected}
use Rattle.outer.proofs.NearWords.{nearest_is, nearest_none}
use Rattle.outer.proofs.Passes.{polynomial_small, lift-polynomial, lift-applied, error_small, lift-error}

module _ (f : ByteField) (rule : FieldRule f) where
  open lifted f rule use {zero as 𝟘, one as 𝟙, add as ◌⊕◌, mul as ◌⊗◌, inv}

  infixl 60 ◌⊕◌
  infixl 70 ◌⊗◌
  zeros-from_lifts : (cs : List ℕ) → Bytes cs → All (λ c. c ≡ 𝟘) (map lift cs) → (i : ℕ) → get_or cs i 0 ≡ 0
  zeros-from_lifts [] h z i = refl
  zeros-from_lifts (c ∷ cs) h z zero = zero_from_lift f rule c (h 0) z.0
  zeros-from_lifts (c ∷ cs) h z (suc i) = zeros-from_lifts cs (λ j. h (suc j)) z.1 i

  module _ (n : ℕ) (cs : List ℕ) (small : Bytes cs) where
    located_zero : (p : ℕ) → is_located f n cs p ≡ true → eval (lifted f rule) (map lift cs) (lift (locator f n p)) ≡ 𝟘
    unfolding is_located
    located_zero p e = sym (lift-polynomial f rule cs (locator f n p) small (locator_small f rule n p)) ∙ ap lift (eqb-true _ _ e) ∙ lift_zero f rule

    not_located : (p : ℕ) → is_located f n cs p ≡ false → ¬ (eval (lifted f rule) (map lift cs) (lift (locator f n p)) ≡ 𝟘)
    unfolding is_located
    not_located p e z =
        eqb-false _ _ e (zero_from_lift f rule _ (polynomial_small f rule cs (locator f n p) small (locator_small f rule n p))
        (lift-polynomial f rule cs (locator f n p) small (locator_small f rule n p) ∙ z))

  -- the locators of the other zeros differ from a zero's own
  others_apart : (n : ℕ) (t : ℕ → Bool) (p : ℕ) → n ≤ 255 → p < n → All (λ q. ¬ (lift (locator f n q) ≡ lift (locator f n p))) (others p (filter t (range_with_len 0 n)))
  unfolding others is_other
  others_apart n t p room h =
      all_both (λ q. q < n) (λ q. is_other p q ≡ true) _ (λ q k o e. eqb-false q p (not-true _ o) (locators_apart f rule n q p room k h e)) (others p (filter t (range_with_len 0 n)))
      (all_kept_by (is_other p) (λ q. q < n) (filter t (range_with_len 0 n)) (all_kept_by t (λ q. q < n) (range_with_len 0 n) (all_places _ 0 n (λ q k l. omega arith))))
      (kept_by_passes (is_other p) (filter t (range_with_len 0 n)))

  module _ (r k e : ℕ) (w s cs : List ℕ) (room : k + 2 * e ≤ 255) (lw : length w ≡ k + 2 * e) (hw : Bytes w) (it : Located f r e w s cs) where
    few_zeros : length (locator_zeros f (k + 2 * e) cs) ≤ e
    unfolding locator_zeros
    few_zeros =
        let n = k + 2 * e in
        omega (
          arith,
          length-map cs lift,
          it.size,
          few_kept (lifted f rule) (λ p. lift (locator f n p)) (is_located f n cs) (range_with_len 0 n) (map lift cs) (places_apart f rule n room)
              (λ z. it.not_zero (zeros-from_lifts cs it.small z)) (located_zero n cs it.small),
        )

    -- a near code word has the corrected bytes
    module _ (c : List ℕ) (near : Near f r e (k + 2 * e) w c) where
      -- the weighted difference of the code word and the word at a place
      abbrev error : ℕ → Byte
      error p = weighted f rule r (k + 2 * e) c p ⊕ weighted f rule r (k + 2 * e) w p

      known : (j : ℕ) → j < e + e → lift (get_or s j 0) ≡ moment (lifted f rule) (λ p. lift (locator f (k + 2 * e) p)) (range_with_len 0 (k + 2 * e)) error j
      known j h =
          let n = k + 2 * e in
          let F = lifted f rule in
          let at-word = moment F (λ p. lift (locator f n p)) (range_with_len 0 n) (weighted f rule r n w) j in
          let at_code : moment F (λ p. lift (locator f n p)) (range_with_len 0 n) (weighted f rule r n c) j ≡ 𝟘
          = sym (syndrome-moment f rule r n c j near.long near.small) ∙ ap lift (near.code j (omega arith)) ∙ lift_zero f rule in
          ap lift (it.syndromes_known j (omega arith)) ∙ syndrome-moment f rule r n w j lw hw
          ∙ sym (moment_add F (λ p. lift (locator f n p)) (range_with_len 0 n) (weighted f rule r n c) (weighted f rule r n w) j ∙ ap (λ u. u ⊕ at-word) at_code ∙ zero_add F at-word)

      annihilated : (j : ℕ) → j < e → dot (lifted f rule) (map lift cs) (λ i. lift (get_or s (i + j) 0)) ≡ 𝟘
      annihilated j h = sym (lift-applied f rule cs s j it.small it.syndromes_small) ∙ ap lift (it.annihilates j h) ∙ lift_zero f rule

      few_errors : length (wrong (lifted f rule) (λ p. lift (locator f (k + 2 * e) p)) error (range_with_len 0 (k + 2 * e))) ≤ e
      few_errors = omega (arith, wrong-distance f rule r (k + 2 * e) c w near.long lw, near.near)

      unlocated : All (λ p. is_located f (k + 2 * e) cs p ≡ false → error p ≡ 𝟘) (range_with_len 0 (k + 2 * e))
      unlocated =
          let n = k + 2 * e in
          zero_if_not_kept (lifted f rule) (λ p. lift (locator f n p)) (range_with_len 0 n) error e (λ j. lift (get_or s j 0)) (map lift cs) (places_apart f rule n room) few_errors known
          (omega (arith, length-map cs lift, it.size)) (λ z. it.not_zero (zeros-from_lifts cs it.small z)) annihilated (is_located f n cs) (located_zero n cs it.small) (not_located n cs it.small)

      same_unlocated : (p : ℕ) → p < k + 2 * e → is_located f (k + 2 * e) cs p ≡ false → get_or w p 0 ≡ get_or c p 0
      unfolding weighted
      same_unlocated p h q =
          let none : error p ≡ 𝟘 = at_place (λ i. is_located f (k + 2 * e) cs i ≡ false → error i ≡ 𝟘) (k + 2 * e) unlocated p h q in
          sym (lift_only _ _ (near.small p) (hw p)
          (cancel_right (lifted f rule) _ _ _ (weight_not_zero f rule r (k + 2 * e) p) (same_from_sum (lifted f rule) _ _ none)))

      value_located : (p : ℕ) → p < k + 2 * e → is_located f (k + 2 * e) cs p ≡ true
          → lift (error_value f r (k + 2 * e) (locator_zeros f (k + 2 * e) cs) s p) ≡ lift (get_or c p 0) ⊕ lift (get_or w p 0)
      unfolding weighted locator_zeros others is_other
      value_located p h q =
          let n = k + 2 * e in
          let F = lifted f rule in
          let t = is_located f n cs in
          let zs = filter t (range_with_len 0 n) in
          let alone : filter (λ i. eqb i p) zs ≡ p ∷ []
          = kept_both t (λ i. eqb i p) (range_with_len 0 n)
          ∙ kept_alone (λ i. t i && eqb i p) 0 n p (omega arith) (omega arith) (and_from _ _ q (eq-eqb p p refl)) (λ i ne. and_right (t i) (eqb i p) (ne_eqb i p ne)) in
          let y = pow F (lift (locator f n p)) r in
          let g = factors F (λ i. lift (locator f n i)) (others p zs) (lift (locator f n p)) in
          let ne : ¬ (y ⊗ g ≡ 𝟘)
          = λ z. factors_not_zero F (λ i. lift (locator f n i)) (others p zs) (lift (locator f n p)) (others_apart n t p room h) (cancel F y g (weight_not_zero f rule r n p) z) in
          lift-error f rule r n zs s p it.syndromes_small
          ∙ ap (λ u. u ⊗ inv (y ⊗ g))
          (turned-value F (λ i. lift (locator f n i)) (range_with_len 0 n) error e (λ j. lift (get_or s j 0)) (map lift cs) (places_apart f rule n room) few_errors known
          (omega (arith, length-map cs lift, it.size)) (λ z. it.not_zero (zeros-from_lifts cs it.small z)) annihilated t (located_zero n cs it.small) (not_located n cs it.small)
          (λ i. eqb i p) p alone)
          ∙ divided F (lift (get_or c p 0)) (lift (get_or w p 0)) y g ne

      -- the corrected word is the near code word
      corrected_is : corrected (error_value f r (k + 2 * e) (locator_zeros f (k + 2 * e) cs) s) w (locator_zeros f (k + 2 * e) cs) ≡ c
      unfolding locator_zeros
      corrected_is =
          let n = k + 2 * e in
          let zs = locator_zeros f n cs in
          let v = error_value f r n zs s in
          ext_get_or 0 (corrected v w zs) c (length-corrected v w zs ∙ lw ∙ sym near.long)
          (λ p h. let inside : p < n = omega (arith, length-corrected v w zs) in
          corrected-at v (is_located f n cs) w n p inside lw ∙ go p inside (is_located f n cs p) refl)
        where
          go : (p : ℕ) → p < k + 2 * e → (b : Bool) → is_located f (k + 2 * e) cs p ≡ b
              → bit_xor (get_or w p 0) (cond b (error_value f r (k + 2 * e) (locator_zeros f (k + 2 * e) cs) s p) 0) ≡ get_or c p 0
          go p h true q =
              lift_only _ _ (xor_of_8 _ _ (hw p) (error_small f rule r (k + 2 * e) (locator_zeros f (k + 2 * e) cs) s p it.syndromes_small)) (near.small p)
              (lift_xor f rule (get_or w p 0) _ ∙ ap (λ u. lift (get_or w p 0) ⊕ u) (value_located p h q) ∙ added_back (lifted f rule) (lift (get_or c p 0)) (lift (get_or w p 0)))
          go p h false q = xor_zero_r (get_or w p 0) ∙ same_unlocated p h q

    pub verdict : Verdict f r k e w (locator_zeros f (k + 2 * e) cs) (error_value f r (k + 2 * e) (locator_zeros f (k + 2 * e) cs) s)
    unfolding locator_zeros
    verdict =
        let n = k + 2 * e in
        let zs = locator_zeros f n cs in
        let v = error_value f r n zs s in
        let lc : length (corrected v w zs) ≡ n = length-corrected v w zs ∙ lw in
        let hc : Bytes (corrected v w zs) = bytes_corrected v w zs (λ p. error_small f rule r n zs s p it.syndromes_small) hw in
        let far : distance (corrected v w zs) w ≡ errors v zs = distance-corrected v (is_located f n cs) w n lw in
        record {
          few = few_zeros;
          long = lc;
          small = hc;
          counted = far;
          found = λ code. nearest_is f rule r k e w room lw (corrected v w zs)
              (record { long = lc; small = hc; code = code; near = omega (arith, errors_few v zs, few_zeros) });
          lost = λ no_code. nearest_none f rule r k e w room lw (λ c near. no_code (subst (CodeWord f r (2 * e)) (sym (corrected_is c near)) near.code));
        }

pub decodes : Decodes
decodes f rule r k e w s cs room lw hw it = verdict f rule r k e w s cs room lw hw it
