-- Polynomials cut by equations.
use Rattle.std.proofs.Common.{◌≡◌, ℕ, zero, suc, ◌+◌, ◌-◌, ◌^◌, ◌<◌, ◌≤◌, ◌≢◌, ◌⊎◌, List, [], ◌∷◌, ◌++◌, length, get_or, take, set, replicate, sym, refl, ap, ◌∙◌, subst, ap₂, inl, inr, add-zero, zero-add, arith, length-set, get_or-set_other, get_or-take, get_or-set_same, w8, Fits, below_more}
use mathlib.Core.Path.{fun_ext}
use lib.Bits.{bit_xor, xor_zero_r, xor_assoc, xor_comm, xor_self}
use lib.Lanes.{Each1, fold_l}
use Rattle.std.proofs.Math.Seq.{get_or-append_seam}
use Rattle.std.proofs.lemmas.List.{get_or_append_left, get_or_past, length-take-le}
use Rattle.std.proofs.lemmas.Nat.{pow_below, xor_of_8}
use Rattle.std.proofs.lemmas.Bool.{cases_lt}
use Rattle.galois.specs.Bytes.{ByteField, FieldRule}
use Rattle.outer.specs.declared.lanes.Row.{Row}
use Rattle.outer.specs.ByteLists.{Bytes}
use Rattle.outer.specs.Decoding.{applied}
use Rattle.outer.specs.Lanes.{lane, at, Are}
use Rattle.outer.specs.Cutting.{from, polynomial, Vector, Moved, FirstFailing, factor, Cleared, Leads, Cut, Power, Powers, Annihilator}
use Rattle.outer.proofs.Bytewise.{bytes_take}
use Rattle.outer.proofs.Zeros.{get_or-zeros, bytes_zeros}
use Rattle.outer.proofs.Corrections.{bytes_set}
use Rattle.outer.proofs.Equations.{mul_zero, zero_mul, more_of_both}

-- what holds of each element below i holds of one more after it is written
pub set_more : {A : Type 0} (P : ℕ → A → Type 0) (d : A) (xs : List A) (i : ℕ) (x : A) → i < length xs → P i x → ((k : ℕ) → k < i → P k (get_or xs k d))
    → (k : ℕ) → k < i + 1 → P k (get_or (set xs i x) k d)
set_more P d xs i x h here below =
    below_more (λ k. P k (get_or (set xs i x) k d)) i
    (λ k l. let other : k ≢ i = omega arith in subst (P k) (sym (get_or-set_other xs i k x d other)) (below k l))
    (subst (P i) (sym (get_or-set_same xs i x d h)) here)

-- and after it is pushed
pub push_more : {A : Type 0} (P : ℕ → A → Type 0) (d : A) (xs : List A) (i : ℕ) (x : A) → length xs ≡ i → P i x → ((k : ℕ) → k < i → P k (get_or xs k d))
    → (k : ℕ) → k < i + 1 → P k (get_or (xs ++ x ∷ []) k d)
push_more P d xs i x e here below =
    below_more (λ k. P k (get_or (xs ++ x ∷ []) k d)) i
    (λ k l. subst (P k) (sym (get_or_append_left xs (x ∷ []) d k (omega arith))) (below k l))
    (subst (P i) (sym (ap (λ j. get_or (xs ++ x ∷ []) j d) (sym e) ∙ get_or-append_seam xs x [] d)) here)

bytes_fit : (v : List ℕ) → Each1 (Fits w8) v → Bytes v
bytes_fit [] h k = omega arith
bytes_fit (x ∷ v) h zero = h.0.fits
bytes_fit (x ∷ v) h (suc k) = bytes_fit v h.1 k

-- what a vector of the machine holds
pub vector_fits : (v : List ℕ) → (length v ≡ 32) × Each1 (Fits w8) v → Vector v
vector_fits v h = record { long = h.0; small = bytes_fit v h.1 }

-- what is known of the lanes alone
pub vector_lanes : (v : List ℕ) → length v ≡ 32 → ((l : ℕ) → l < 32 → lane v l < 256) → Vector v
vector_lanes v e h = record { long = e; small = λ l. small l (cases_lt l 32) }
  where
    small : (l : ℕ) → (l < 32) ⊎ (32 ≤ l) → lane v l < 256
    small l (inl m) = h l m
    small l (inr m) = subst (λ u. u < 256) (sym (get_or_past v l 0 (omega arith))) (omega arith)

-- one lane is 1
pub power-written : (b : ℕ) → b < 32 → Power b (set (replicate 32 0) b 1)
power-written b h = record {
  vector = record { long = length-set (replicate 32 0) b 1; small = bytes_set (replicate 32 0) b 1 (omega arith) (bytes_zeros 32) };
  one = get_or-set_same (replicate 32 0) b 1 0 h;
  zeros = λ l n. get_or-set_other (replicate 32 0) b l 1 0 n ∙ get_or-zeros 32 l;
}

-- a sum of all lanes from a on
fold_from : (a : ℕ) (v : List ℕ) → fold_l bit_xor a v ≡ bit_xor a (fold_l bit_xor 0 v)
fold_from a [] = sym (xor_zero_r a)
fold_from a (x ∷ v) =
    let rest = fold_l bit_xor 0 v in
    let none : fold_l bit_xor (bit_xor 0 x) v ≡ bit_xor x rest = fold_from (bit_xor 0 x) v ∙ ap (λ u. bit_xor u rest) (xor_comm 0 x ∙ xor_zero_r x) in
    fold_from (bit_xor a x) v ∙ xor_assoc a x rest ∙ ap (bit_xor a) (sym none)

module _ (f : ByteField) where
  -- the products of all lanes, summed
  pub fold_applied : (v p s : List ℕ) (j : ℕ) → length v ≡ length p → ((l : ℕ) → l < length v → lane v l ≡ f.mul (lane p l) (from s j l)) → fold_l bit_xor 0 v ≡ applied f p s j
  unfolding applied
  fold_applied [] [] s j e h = refl
  fold_applied [] (c ∷ p) s j e h = absurd (omega arith)
  fold_applied (x ∷ v) [] s j e h = absurd (omega arith)
  fold_applied (x ∷ v) (c ∷ p) s j e h =
      fold_from (bit_xor 0 x) v
      ∙ ap₂ bit_xor (xor_comm 0 x ∙ xor_zero_r x ∙ h 0 (omega arith) ∙ ap (λ i. f.mul c (lane s i)) (add-zero j))
      (fold_applied v p s (j + 1) (omega arith) (λ l m. let next : j + suc l ≡ j + 1 + l = omega arith in h (suc l) (omega arith) ∙ ap (λ i. f.mul (lane p l) (lane s i)) next))

  pub applied_small : FieldRule f → (p s : List ℕ) (j : ℕ) → Bytes p → Bytes s → applied f p s j < 256
  unfolding applied
  applied_small rule [] s j hp hs = omega arith
  applied_small rule (c ∷ p) s j hp hs = xor_of_8 _ _ (rule.mul_small c (lane s j) (hp 0) (hs j)) (applied_small rule p s (j + 1) (λ i. hp (suc i)) hs)

  applied-zeros : FieldRule f → (p s : List ℕ) (j : ℕ) → Bytes s → ((l : ℕ) → lane p l ≡ 0) → applied f p s j ≡ 0
  unfolding applied
  applied-zeros rule [] s j hs h = refl
  applied-zeros rule (c ∷ p) s j hs h =
      ap₂ bit_xor (ap (λ u. f.mul u (lane s j)) (h 0) ∙ zero_mul f rule (lane s j) (hs j)) (applied-zeros rule p s (j + 1) hs (λ l. h (suc l)))

  -- zeros behind a polynomial add nothing
  pub applied-take : FieldRule f → (m : ℕ) (p s : List ℕ) (j : ℕ) → Bytes s → ((l : ℕ) → m ≤ l → lane p l ≡ 0) → applied f (take m p) s j ≡ applied f p s j
  unfolding applied
  applied-take rule zero p s j hs h = sym (applied-zeros rule p s j hs (λ l. h l (omega arith)))
  applied-take rule (suc m) [] s j hs h = refl
  applied-take rule (suc m) (c ∷ p) s j hs h = ap (bit_xor (f.mul c (lane s j))) (applied-take rule m p s (j + 1) hs (λ l k. h (suc l) (omega arith)))

  -- a sum of polynomials, applied
  sum-applied : FieldRule f → (k : ℕ) (p v r s : List ℕ) (j : ℕ) → k < 256 → Bytes p → Bytes v → Bytes s → length p ≡ length r → length v ≡ length r
      → ((l : ℕ) → l < length r → lane r l ≡ bit_xor (lane v l) (f.mul k (lane p l)))
      → applied f r s j ≡ bit_xor (applied f v s j) (f.mul k (applied f p s j))
  unfolding applied
  sum-applied rule k [] [] [] s j hk hp hv hs ep ev h = sym (ap (bit_xor 0) (mul_zero f rule k hk))
  sum-applied rule k (z ∷ p) v [] s j hk hp hv hs ep ev h = absurd (omega arith)
  sum-applied rule k [] (y ∷ v) [] s j hk hp hv hs ep ev h = absurd (omega arith)
  sum-applied rule k [] v (x ∷ r) s j hk hp hv hs ep ev h = absurd (omega arith)
  sum-applied rule k (z ∷ p) [] (x ∷ r) s j hk hp hv hs ep ev h = absurd (omega arith)
  sum-applied rule k (z ∷ p) (y ∷ v) (x ∷ r) s j hk hp hv hs ep ev h =
      let rest = applied f p s (j + 1) in
      let other = applied f v s (j + 1) in
      ap₂ bit_xor (ap (λ u. f.mul u (lane s j)) (h 0 (omega arith)))
      (sum-applied rule k p v r s (j + 1) hk (λ i. hp (suc i)) (λ i. hv (suc i)) hs (omega arith) (omega arith) (λ l m. h (suc l) (omega arith)))
      ∙ more_of_both f rule k y z (lane s j) rest hk (hv 0) (hp 0) (hs j) (applied_small rule p s (j + 1) (λ i. hp (suc i)) hs) other
      (applied_small rule v s (j + 1) (λ i. hv (suc i)) hs)

  -- the multiple that makes a sum 0
  cleared_zero : FieldRule f → (d b : ℕ) → d < 256 → b < 256 → ¬ (b ≡ 0) → bit_xor d (f.mul (f.mul d (f.inv b)) b) ≡ 0
  cleared_zero rule d b hd hb h =
      let small = rule.inv_small b hb in
      ap (bit_xor d) (rule.mul_assoc d (f.inv b) b hd small hb ∙ ap (f.mul d) (rule.mul_comm (f.inv b) b small hb ∙ rule.inverse b hb h) ∙ rule.mul_one d hd)
      ∙ xor_self d

  -- the constants of the first lanes
  pub are_from_start : (s : List ℕ) (rows : List Row) → Are f (lane s) rows → Are f (from s 0) rows
  are_from_start s rows are = subst (λ c. Are f c rows) (fun_ext (λ l. ap (lane s) (sym (zero-add l)))) are

  -- the constants of the next lanes
  pub moved_are : FieldRule f → (s : List ℕ) (j : ℕ) (rows others : List Row) → length s ≤ 32 → Are f (from s j) rows
      → ((i : ℕ) → i < 8 → Moved (polynomial rows i) (polynomial others i)) → Are f (from s (j + 1)) others
  moved_are rule s j rows others few are moved = record {
    bytes = λ l h. small l (cases_lt l 31);
    each = λ i l hi hl. go i l hi hl (cases_lt l 31);
  }
    where
      next : (l : ℕ) → from s (j + 1) l ≡ from s j (1 + l)
      next l = let e : j + 1 + l ≡ j + (1 + l) = omega arith in ap (lane s) e

      past : (l : ℕ) → 31 ≤ l → from s (j + 1) l ≡ 0
      past l h = get_or_past s (j + 1 + l) 0 (omega arith)

      small : (l : ℕ) → (l < 31) ⊎ (31 ≤ l) → from s (j + 1) l < 256
      small l (inl h) = subst (λ b. b < 256) (sym (next l)) (are.bytes (1 + l) (omega arith))
      small l (inr h) = subst (λ b. b < 256) (sym (past l h)) (omega arith)

      go : (i l : ℕ) → i < 8 → l < 32 → (l < 31) ⊎ (31 ≤ l) → at others i l ≡ f.mul (from s (j + 1) l) (2 ^ i)
      go i l hi hl (inl h) = (moved i hi).each l h ∙ are.each i (1 + l) hi (omega arith) ∙ ap (λ u. f.mul u (2 ^ i)) (sym (next l))
      go i l hi hl (inr h) =
          let end : l ≡ 31 = omega arith in
          ap (at others i) end ∙ (moved i hi).last ∙ sym (ap (λ u. f.mul u (2 ^ i)) (past l h) ∙ zero_mul f rule (2 ^ i) (pow_below i 8 hi))

  -- one equation that polynomial b of n fails
  pub cut_cleared : FieldRule f → (e : ℕ) (s : List ℕ) (j n b : ℕ) (ps qs : List Row) → e ≤ 16 → Bytes s → b < n → FirstFailing f s j ps n b → Cleared f s j n b ps qs
      → Cut f e s j n ps → Cut f e s (j + 1) (n - 1) qs
  cut_cleared rule e s j n b ps qs he hs hb first cleared cut = record {
    few = omega (arith, cut.few);
    left = omega (arith, cut.left);
    vectors = λ k h. by (λ q. Vector q) k h (λ l. cut.vectors k (omega arith)) (λ l. (cleared.behind k l (omega arith)).vector);
    degree = λ k l h m few. by (λ q. lane q l ≡ 0) k h (λ d. cut.degree k l (omega arith) m few)
        (λ d. sum-lane k l d h few (cut.degree (k + 1) l (omega arith) m few) (cut.degree b l hb m few));
    meets = λ k i h. below_more (λ i. applied f (polynomial qs k) s i ≡ 0) j
        (λ i m. by (λ q. applied f q s i ≡ 0) k h (λ d. cut.meets k i (omega arith) m)
        (λ d. sum_meets k i d h ∙ ap₂ (λ u w. bit_xor u (f.mul (times k) w)) (cut.meets (k + 1) i (omega arith) m) (cut.meets b i hb m) ∙ none k h))
        (by (λ q. applied f q s j ≡ 0) k h (first.before k) (λ d. sum_meets k j d h ∙ cleared_zero rule _ _ (value (k + 1) (omega arith)) (value b hb) (first.found hb))) i;
    leads = λ k h. lead k h (cases_lt k b);
  }
    where
      p : List ℕ
      p = polynomial ps b

      times : ℕ → ℕ
      times k = factor f s j p (polynomial ps (k + 1))

      value : (k : ℕ) → k < n → applied f (polynomial ps k) s j < 256
      value k h = applied_small rule (polynomial ps k) s j (cut.vectors k h).small hs

      times_small : (k : ℕ) → k < n - 1 → times k < 256
      times_small k h = rule.mul_small _ _ (value (k + 1) (omega arith)) (rule.inv_small _ (value b hb))

      none : (k : ℕ) → k < n - 1 → bit_xor 0 (f.mul (times k) 0) ≡ 0
      none k h = ap (bit_xor 0) (mul_zero f rule (times k) (times_small k h))

      -- a polynomial ahead of b is as it was, and one behind it a sum
      by : (P : List ℕ → Type 0) (k : ℕ) → k < n - 1 → (k < b → P (polynomial ps k)) → (b ≤ k → P (polynomial qs k)) → P (polynomial qs k)
      by P k h before behind = go (cases_lt k b)
        where
          go : (k < b) ⊎ (b ≤ k) → P (polynomial qs k)
          go (inl l) = subst P (sym (cleared.ahead k l)) (before l)
          go (inr l) = behind l

      sum-lane : (k l : ℕ) → b ≤ k → k < n - 1 → l < 32 → lane (polynomial ps (k + 1)) l ≡ 0 → lane p l ≡ 0 → lane (polynomial qs k) l ≡ 0
      sum-lane k l d h few u w = (cleared.behind k d (omega arith)).each l few ∙ ap₂ (λ u w. bit_xor u (f.mul (times k) w)) u w ∙ none k h

      sum_meets : (k i : ℕ) → b ≤ k → k < n - 1 → applied f (polynomial qs k) s i ≡ bit_xor (applied f (polynomial ps (k + 1)) s i) (f.mul (times k) (applied f p s i))
      sum_meets k i d h =
          let sum = cleared.behind k d (omega arith) in
          let v = cut.vectors (k + 1) (omega arith) in
          let w = cut.vectors b hb in
          sum-applied rule (times k) p (polynomial ps (k + 1)) (polynomial qs k) s i (times_small k h) w.small v.small hs (omega (arith, w.long, sum.vector.long)) (omega (arith, v.long, sum.vector.long))
          (λ l m. sum.each l (omega (arith, sum.vector.long)))

      lead : (k : ℕ) → k < n - 1 → (k < b) ⊎ (b ≤ k) → Leads e qs k
      lead k h (inl l) =
          let was = cut.leads k (omega arith) in
          record {
            place = was.place;
            low = was.low;
            one = subst (λ q. lane q was.place ≡ 1) (sym (cleared.ahead k l)) was.one;
            zeros = λ a m. subst (λ q. lane q was.place ≡ 0) (sym (cleared.ahead a (omega arith))) (was.zeros a m);
          }
      lead k h (inr l) =
          let was = cut.leads (k + 1) (omega arith) in
          let few : was.place < 32 = omega (arith, was.low) in
          record {
            place = was.place;
            low = was.low;
            one = (cleared.behind k l (omega arith)).each was.place few ∙ ap₂ (λ u w. bit_xor u (f.mul (times k) w)) was.one (was.zeros b (omega arith))
                ∙ ap (bit_xor 1) (mul_zero f rule (times k) (times_small k h));
            zeros = λ a m. by (λ q. lane q was.place ≡ 0) a (omega arith) (λ d. was.zeros a (omega arith))
                (λ d. sum-lane a was.place d (omega arith) few (was.zeros (a + 1) (omega arith)) (was.zeros b (omega arith)));
          }

  -- only the polynomials that are left count
  pub cut_same : (e : ℕ) (s : List ℕ) (j n : ℕ) (ps qs : List Row) → ((b : ℕ) → b < n → polynomial ps b ≡ polynomial qs b) → Cut f e s j n ps → Cut f e s j n qs
  cut_same e s j n ps qs same cut = record {
    few = cut.few;
    left = cut.left;
    vectors = λ b h. subst (λ p. Vector p) (same b h) (cut.vectors b h);
    degree = λ b l h m few. subst (λ p. lane p l ≡ 0) (same b h) (cut.degree b l h m few);
    meets = λ b i h m. subst (λ p. applied f p s i ≡ 0) (same b h) (cut.meets b i h m);
    leads = λ b h.
        let it = cut.leads b h in
        record {
          place = it.place;
          low = it.low;
          one = subst (λ p. lane p it.place ≡ 1) (same b h) it.one;
          zeros = λ a m. subst (λ p. lane p it.place ≡ 0) (same a (omega arith)) (it.zeros a m);
        };
  }

  -- the powers of x, before any equation
  pub cut_powers : (e : ℕ) (s : List ℕ) (ps : List Row) → e ≤ 16 → Powers ps → Cut f e s 0 (e + 1) ps
  cut_powers e s ps he powers = record {
    few = omega arith;
    left = omega arith;
    vectors = λ b h. (powers b (omega arith)).vector;
    degree = λ b l h m few. (powers b (omega arith)).zeros l (λ d. omega arith);
    meets = λ b i h m. absurd (omega arith);
    leads = λ b h. record {
      place = b;
      low = omega arith;
      one = (powers b (omega arith)).one;
      zeros = λ a m. (powers a (omega arith)).zeros b (λ d. omega arith);
    };
  }

  -- the first polynomial that is left
  pub cut_annihilates : FieldRule f → (e : ℕ) (s : List ℕ) (j n : ℕ) (ps : List Row) → e ≤ 16 → j ≡ e → Bytes s → Cut f e s j n ps → Annihilator f e s (polynomial ps 0)
  cut_annihilates rule e s j n ps he end hs cut = record {
    size = length-take-le (e + 1) p (omega (arith, vector.long));
    small = bytes_take (e + 1) p vector.small;
    not_zero = λ all.
        let z : 1 ≡ 0 = sym first.one ∙ sym (get_or-take (e + 1) p first.place 0 (omega (arith, first.low))) ∙ all first.place in omega arith;
    annihilates = λ i h. applied-take rule (e + 1) p s i hs (λ l m. beyond l (omega arith)) ∙ cut.meets 0 i there (omega arith);
    beyond = beyond;
  }
    where
      p : List ℕ
      p = polynomial ps 0

      there : 0 < n
      there = omega (arith, cut.left)

      vector : Vector p
      vector = cut.vectors 0 there

      first : Leads e ps 0
      first = cut.leads 0 there

      beyond : (l : ℕ) → e < l → lane p l ≡ 0
      beyond l h = go (cases_lt l 32)
        where
          go : (l < 32) ⊎ (32 ≤ l) → lane p l ≡ 0
          go (inl m) = cut.degree 0 l there h m
          go (inr m) = get_or_past p l 0 (omega (arith, vector.long))
