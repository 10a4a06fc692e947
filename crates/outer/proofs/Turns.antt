-- One turn of a loop for each part of the decoder.
use Rattle.std.proofs.Common.{◌≡◌, ℕ, ◌+◌, ◌<◌, Bool, cond, not, eqb, List, [], ◌∷◌, ◌++◌, length, get_or, take, set, filter, sym, refl, ap, ◌∙◌, ap₂, add_assoc, add_comm, zero-add, arith}
use Rattle.std.proofs.lemmas.Nat.{xor_of_8}
use lib.Bits.{bit_xor}
use Rattle.std.specs.List.{range_with_len}
use Rattle.std.proofs.lemmas.List.FromFn.{filter_of_map_range_with_len_more}
use Rattle.std.proofs.lemmas.List.Elements.{filter-append}
use Rattle.std.proofs.lemmas.List.{append-nil, take_more, map-id}
use Rattle.std.proofs.lemmas.Bool.{eq-eqb, ne_eqb}
use Rattle.galois.specs.Bytes.{ByteField, FieldRule}
use Rattle.outer.specs.Decoding.{locator, is_other, others, passed, passes, differences, corrected, errors}
use Rattle.outer.proofs.Bytewise.{locator_small}
use Rattle.outer.proofs.Passes.{differences_small}

-- the places below i + 1 that a test keeps
pub kept_push : (t : ℕ → Bool) (i : ℕ) → filter t (range_with_len 0 (i + 1)) ≡ filter t (range_with_len 0 i) ++ cond (t i) (i ∷ []) []
kept_push t i =
    ap (filter t) (sym (map-id (range_with_len 0 (i + 1))))
    ∙ filter_of_map_range_with_len_more t (λ p. p) 0 i i (zero-add i)
    ∙ ap (λ l. filter t l ++ cond (t i) (i ∷ []) []) (map-id (range_with_len 0 i))

pub others_push : (p q : ℕ) (zs : List ℕ) → ¬ (q ≡ p) → others p (zs ++ q ∷ []) ≡ others p zs ++ q ∷ []
unfolding others is_other
others_push p q zs h = filter-append (is_other p) zs (q ∷ []) ∙ ap (λ b. others p zs ++ cond (not b) (q ∷ []) []) (ne_eqb q p h)

pub others_same : (p q : ℕ) (zs : List ℕ) → q ≡ p → others p (zs ++ q ∷ []) ≡ others p zs
unfolding others is_other
others_same p q zs h = filter-append (is_other p) zs (q ∷ []) ∙ ap (λ b. others p zs ++ cond (not b) (q ∷ []) []) (eq-eqb q p h) ∙ append-nil (others p zs)

pub corrected_push : (v : ℕ → ℕ) (w ps : List ℕ) (p : ℕ) → corrected v w (ps ++ p ∷ []) ≡ set (corrected v w ps) p (bit_xor (get_or (corrected v w ps) p 0) (v p))
unfolding corrected
corrected_push v w [] p = refl
corrected_push v w (q ∷ qs) p = corrected_push v (set w q (bit_xor (get_or w q 0) (v q))) qs p

pub errors_push : (v : ℕ → ℕ) (ps : List ℕ) (p : ℕ) → errors v (ps ++ p ∷ []) ≡ errors v ps + cond (eqb (v p) 0) 0 1
unfolding errors
errors_push v [] p = add_comm (cond (eqb (v p) 0) 0 1) 0
errors_push v (q ∷ qs) p = ap (λ n. cond (eqb (v q) 0) 0 1 + n) (errors_push v qs p) ∙ sym (add_assoc (cond (eqb (v q) 0) 0 1) (errors v qs) (cond (eqb (v p) 0) 0 1))

-- one place more of a list, with its value
module _ (v : ℕ → ℕ) (w zs : List ℕ) (i p x : ℕ) (inside : i < length zs) (is : get_or zs i 0 ≡ p) (e : x ≡ v p) where
  one_more : take (i + 1) zs ≡ take i zs ++ p ∷ []
  one_more = take_more zs i 0 inside ∙ ap (λ z. take i zs ++ z ∷ []) is

  pub corrected_more : (ys : List ℕ) → ys ≡ corrected v w (take i zs) → set ys p (bit_xor (get_or ys p 0) x) ≡ corrected v w (take (i + 1) zs)
  corrected_more ys known = ap₂ (λ l b. set l p (bit_xor (get_or l p 0) b)) known e ∙ sym (ap (corrected v w) one_more ∙ corrected_push v w (take i zs) p)

  errors_more : errors v (take (i + 1) zs) ≡ errors v (take i zs) + cond (eqb x 0) 0 1
  errors_more = ap (errors v) one_more ∙ errors_push v (take i zs) p ∙ ap (λ b. errors v (take i zs) + cond (eqb b 0) 0 1) (sym e)

  pub errors_one_more : (n : ℕ) → ¬ (x ≡ 0) → n ≡ errors v (take i zs) → n + 1 ≡ errors v (take (i + 1) zs)
  errors_one_more n other known = omega (arith, errors_more, ap (λ b. errors v (take i zs) + cond b 0 1) (ne_eqb x 0 other))

  pub errors_no_more : (n : ℕ) → x ≡ 0 → n ≡ errors v (take i zs) → n ≡ errors v (take (i + 1) zs)
  errors_no_more n none known = omega (arith, errors_more, ap (λ b. errors v (take i zs) + cond b 0 1) (eq-eqb x 0 none))

module _ (f : ByteField) where
  pub passes_push : (n : ℕ) (qs : List ℕ) (q : ℕ) (s : ℕ → ℕ) → passes f n (qs ++ q ∷ []) s ≡ passed f (locator f n q) (passes f n qs s)
  unfolding passes
  passes_push n [] q s = refl
  passes_push n (p ∷ ps) q s = passes_push n ps q (passed f (locator f n p) s)

  pub differences_push : FieldRule f → (n : ℕ) (qs : List ℕ) (q x : ℕ) → x < 256 → differences f n (qs ++ q ∷ []) x ≡ f.mul (differences f n qs x) (bit_xor x (locator f n q))
  unfolding differences
  differences_push rule n [] q x h = rule.mul_comm _ 1 (xor_of_8 x _ h (locator_small f rule n q)) (omega arith)
  differences_push rule n (p ∷ ps) q x h =
      ap (f.mul (bit_xor x (locator f n p))) (differences_push rule n ps q x h)
      ∙ sym (rule.mul_assoc _ _ _ (xor_of_8 x _ h (locator_small f rule n p)) (differences_small f rule n ps x h) (xor_of_8 x _ h (locator_small f rule n q)))
