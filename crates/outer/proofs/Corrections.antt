-- A word with values added at some places.
use Rattle.std.proofs.Common.{◌≡◌, ℕ, zero, suc, ◌+◌, ◌<◌, ◌≤◌, Bool, true, false, cond, not, ◌&&◌, eqb, List, [], ◌∷◌, length, get_or, set, filter, sym, refl, ap, ◌∙◌, arith}
use Rattle.std.proofs.lemmas.Nat.{xor_of_8}
use native.Mathlib.Decide.{ℕ_discrete}
use lib.Bits.{bit_xor, xor_zero_r, xor_assoc, xor_self, xor_zero_l}
use Rattle.std.specs.List.{range_with_len}
use Rattle.std.proofs.lemmas.List.{length-set, get_or-set_same, get_or-set_other}
use Rattle.std.proofs.lemmas.Bool.{eq-eqb, ne_eqb}
use Rattle.outer.specs.ByteLists.{Bytes}
use Rattle.outer.specs.Words.{distance}
use Rattle.outer.specs.Decoding.{corrected, errors}
use Rattle.outer.proofs.Bytewise.{bytes_cons}
use Rattle.outer.proofs.Kept.{kept_same, kept_both}
use Rattle.outer.proofs.Distances.{distance_kept}
use Rattle.outer.proofs.Places.{all_places}

pub bytes_set : (w : List ℕ) (p x : ℕ) → x < 256 → Bytes w → Bytes (set w p x)
bytes_set [] p x h k = k
bytes_set (b ∷ bs) zero x h k = bytes_cons x bs h (λ i. k (suc i))
bytes_set (b ∷ bs) (suc p) x h k = bytes_cons b (set bs p x) (k 0) (bytes_set bs p x h (λ i. k (suc i)))

-- adding changes a byte unless 0 is added
added_same : (a x : ℕ) → eqb (bit_xor a x) a ≡ eqb x 0
added_same a x = go (ℕ_discrete x 0)
  where
    go : Dec (x ≡ 0) → eqb (bit_xor a x) a ≡ eqb x 0
    go (yes e) = eq-eqb (bit_xor a x) a (ap (bit_xor a) e ∙ xor_zero_r a) ∙ sym (eq-eqb x 0 e)
    go (no e) =
        ne_eqb (bit_xor a x) a (λ d. e (sym (xor_zero_l x) ∙ ap (λ u. bit_xor u x) (sym (xor_self a)) ∙ xor_assoc a a x ∙ ap (bit_xor a) d ∙ xor_self a)) ∙ sym (ne_eqb x 0 e)

module _ (v : ℕ → ℕ) where
  pub length-corrected : (w ps : List ℕ) → length (corrected v w ps) ≡ length w
  unfolding corrected
  length-corrected w [] = refl
  length-corrected w (p ∷ ps) = length-corrected (set w p (bit_xor (get_or w p 0) (v p))) ps ∙ length-set w p (bit_xor (get_or w p 0) (v p))

  pub bytes_corrected : (w ps : List ℕ) → ((p : ℕ) → v p < 256) → Bytes w → Bytes (corrected v w ps)
  unfolding corrected
  bytes_corrected w [] h k = k
  bytes_corrected w (p ∷ ps) h k =
      bytes_corrected (set w p (bit_xor (get_or w p 0) (v p))) ps h (bytes_set w p (bit_xor (get_or w p 0) (v p)) (xor_of_8 _ _ (k p) (h p)) k)

  pub errors_kept : (ps : List ℕ) → errors v ps ≡ length (filter (λ p. not (eqb (v p) 0)) ps)
  unfolding errors
  errors_kept [] = refl
  errors_kept (p ∷ ps) = go (eqb (v p) 0) (errors_kept ps)
    where
      go : (b : Bool) → errors v ps ≡ length (filter (λ q. not (eqb (v q) 0)) ps)
          → cond b 0 1 + errors v ps ≡ length (cond (not b) (p ∷ filter (λ q. not (eqb (v q) 0)) ps) (filter (λ q. not (eqb (v q) 0)) ps))
      go true ih = omega arith
      go false ih = omega arith

  pub errors_few : (ps : List ℕ) → errors v ps ≤ length ps
  unfolding errors
  errors_few [] = omega arith
  errors_few (p ∷ ps) = go (eqb (v p) 0) (errors_few ps)
    where
      go : (b : Bool) → errors v ps ≤ length ps → cond b 0 1 + errors v ps ≤ suc (length ps)
      go true ih = omega arith
      go false ih = omega arith

  module _ (t : ℕ → Bool) where
    corrected-before : (w : List ℕ) (a n p : ℕ) → p < a → get_or (corrected v w (filter t (range_with_len a n))) p 0 ≡ get_or w p 0
    unfolding corrected
    corrected-before w a zero p h = refl
    corrected-before w a (suc n) p h =
        go (t a) (λ u. corrected-before u (a + 1) n p (omega arith))
      where
        go : (b : Bool) → ((u : List ℕ) → get_or (corrected v u (filter t (range_with_len (a + 1) n))) p 0 ≡ get_or u p 0)
            → get_or (corrected v w (cond b (a ∷ filter t (range_with_len (a + 1) n)) (filter t (range_with_len (a + 1) n)))) p 0 ≡ get_or w p 0
        go true ih = ih (set w a (bit_xor (get_or w a 0) (v a))) ∙ get_or-set_other w a p (bit_xor (get_or w a 0) (v a)) 0 (λ e. omega arith)
        go false ih = ih w

    corrected-from : (w : List ℕ) (a n p : ℕ) → a ≤ p → p < a + n → p < length w
        → get_or (corrected v w (filter t (range_with_len a n))) p 0 ≡ bit_xor (get_or w p 0) (cond (t p) (v p) 0)
    unfolding corrected
    corrected-from w a zero p h k l = absurd (omega arith)
    corrected-from w a (suc n) p h k l =
        go (t a) refl (ℕ_discrete p a) (λ u d m. corrected-from u (a + 1) n p d (omega arith) m)
      where
        go : (b : Bool) → t a ≡ b → Dec (p ≡ a)
            → ((u : List ℕ) → a + 1 ≤ p → p < length u → get_or (corrected v u (filter t (range_with_len (a + 1) n))) p 0 ≡ bit_xor (get_or u p 0) (cond (t p) (v p) 0))
            → get_or (corrected v w (cond b (a ∷ filter t (range_with_len (a + 1) n)) (filter t (range_with_len (a + 1) n)))) p 0 ≡ bit_xor (get_or w p 0) (cond (t p) (v p) 0)
        go true q (yes e) ih =
            let x = bit_xor (get_or w a 0) (v a) in
            corrected-before (set w a x) (a + 1) n p (omega arith)
            ∙ ap (λ i. get_or (set w a x) i 0) e ∙ get_or-set_same w a x 0 (omega arith)
            ∙ ap (λ c. bit_xor (get_or w a 0) (cond c (v a) 0)) (sym q) ∙ ap (λ i. bit_xor (get_or w i 0) (cond (t i) (v i) 0)) (sym e)
        go true q (no e) ih =
            let x = bit_xor (get_or w a 0) (v a) in
            ih (set w a x) (omega arith) (omega (arith, length-set w a x))
            ∙ ap (λ b. bit_xor b (cond (t p) (v p) 0)) (get_or-set_other w a p x 0 e)
        go false q (yes e) ih =
            corrected-before w (a + 1) n p (omega arith)
            ∙ sym (ap (λ c. bit_xor (get_or w p 0) (cond c (v p) 0)) (ap t e ∙ q) ∙ xor_zero_r (get_or w p 0))
        go false q (no e) ih = ih w (omega arith) l

    -- at each place that the test keeps the value is added, and no other place changes
    pub corrected-at : (w : List ℕ) (n p : ℕ) → p < n → length w ≡ n → get_or (corrected v w (filter t (range_with_len 0 n))) p 0 ≡ bit_xor (get_or w p 0) (cond (t p) (v p) 0)
    corrected-at w n p h l = corrected-from w 0 n p (omega arith) (omega arith) (omega arith)

    -- a corrected word differs from the word at the places with a value that is not 0
    pub distance-corrected : (w : List ℕ) (n : ℕ) → length w ≡ n
        → distance (corrected v w (filter t (range_with_len 0 n))) w ≡ errors v (filter t (range_with_len 0 n))
    distance-corrected w n l =
        let zs = filter t (range_with_len 0 n) in
        let now = corrected v w zs in
        let long : length now ≡ n = length-corrected w zs ∙ l in
        let differs : ℕ → Bool = λ p. not (eqb (get_or now p 0) (get_or w p 0)) in
        distance_kept now w 0 differs (long ∙ sym l) (λ k p h e. let same : k ≡ p = omega arith in ap (λ q. not (eqb (get_or now q 0) (get_or w q 0))) (sym same))
        ∙ ap (λ m. length (filter differs (range_with_len 0 m))) long
        ∙ ap length (kept_same differs (λ p. t p && not (eqb (v p) 0)) (range_with_len 0 n)
        (all_places _ 0 n (λ p h k. ap (λ x. not (eqb x (get_or w p 0))) (corrected-at w n p (omega arith) l) ∙ ap not (added_same (get_or w p 0) (cond (t p) (v p) 0)) ∙ both (t p) (v p)))
        ∙ sym (kept_both t (λ p. not (eqb (v p) 0)) (range_with_len 0 n)))
        ∙ sym (errors_kept zs)
      where
        both : (b : Bool) (x : ℕ) → not (eqb (cond b x 0) 0) ≡ (b && not (eqb x 0))
        both true x = refl
        both false x = refl
