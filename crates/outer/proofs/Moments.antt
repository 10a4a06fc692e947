-- Polynomials over a field, and the moments of terms at places.
use Rattle.std.proofs.Common.{◌≡◌, ℕ, zero, suc, ◌+◌, ◌*◌, ◌<◌, ◌≤◌, Bool, true, false, cond, not, List, [], ◌∷◌, length, filter, sym, refl, ap, ◌∙◌, ap₂, mul_comm as times-comm, suc-add as suc-plus, mul-zero as times_zero, zero-add as zero-plus, mul-suc as times-suc, arith}
use mathlib.Core.Path.{fun_ext}
use native.Mathlib.Decide.{dec_le}
use Rattle.std.specs.List.{AllByRecursion as All}
use Rattle.std.proofs.ByRecursion.{All-weaker, all_kept_by, kept_by_passes}
use Rattle.std.proofs.lemmas.Bool.{not-true, not-false}
use Rattle.std.proofs.lemmas.List.Filters.{length-filter_both}
use Rattle.galois.specs.Laws.{Field}
use Rattle.outer.proofs.Kept.{all_both, all_always, all_if_kept, either_way}
use Rattle.outer.proofs.Rings.{ring, add_zero, mul_zero, mul_one, mul_comm, mul_assoc, cancel, same_from_sum, is_zero_true, is_zero_false}
use Rattle.outer.proofs.Series.{pow, sum, eval, dot, is_zero, moment, Apart, wrong, turned, factors}

module _ {K : Type 0} (F : Field K) where
  open F use {zero as 𝟘, one as 𝟙, add as ◌⊕◌, mul as ◌⊗◌, inv}

  infixl 60 ◌⊕◌
  infixl 70 ◌⊗◌
  -- their clauses, as equations
  pub pow_zero : (x : K) → pow F x 0 ≡ 𝟙
  unfolding pow
  pow_zero x = refl

  pub pow_suc : (x : K) (j : ℕ) → pow F x (suc j) ≡ x ⊗ pow F x j
  unfolding pow
  pow_suc x j = refl

  pub sum_nil : {A : Type 0} (f : A → K) → sum F [] f ≡ 𝟘
  unfolding sum
  sum_nil f = refl

  pub sum_cons : {A : Type 0} (a : A) (rest : List A) (f : A → K) → sum F (a ∷ rest) f ≡ f a ⊕ sum F rest f
  unfolding sum
  sum_cons a rest f = refl

  pub eval_nil : (x : K) → eval F [] x ≡ 𝟘
  unfolding eval
  eval_nil x = refl

  pub eval_cons : (p : K) (ps : List K) (x : K) → eval F (p ∷ ps) x ≡ p ⊕ x ⊗ eval F ps x
  unfolding eval
  eval_cons p ps x = refl

  pub dot_nil : (s : ℕ → K) → dot F [] s ≡ 𝟘
  unfolding dot
  dot_nil s = refl

  pub dot_cons : (p : K) (ps : List K) (s : ℕ → K) → dot F (p ∷ ps) s ≡ p ⊗ s 0 ⊕ dot F ps (λ j. s (suc j))
  unfolding dot
  dot_cons p ps s = refl

  pub ruleset steps = (pow_zero, pow_suc, sum_nil, sum_cons, eval_nil, eval_cons, dot_nil, dot_cons)

  pub dot_zero : (ps : List K) → dot F ps (λ j. 𝟘) ≡ 𝟘
  dot_zero [] = simp steps
  dot_zero (p ∷ ps) = simp (steps, dot_zero ps, ring)

  pub dot_add : (ps : List K) (c : K) (s t : ℕ → K) → dot F ps (λ j. c ⊗ s j ⊕ t j) ≡ c ⊗ dot F ps s ⊕ dot F ps t
  dot_add [] c s t = simp (steps, ring)
  dot_add (p ∷ ps) c s t = simp (steps, dot_add ps c (λ j. s (suc j)) (λ j. t (suc j))) (simp ring)

  pub dot_scale : (ps : List K) (c : K) (s : ℕ → K) → dot F ps (λ j. c ⊗ s j) ≡ c ⊗ dot F ps s
  dot_scale [] c s = simp (steps, ring)
  dot_scale (p ∷ ps) c s = simp (steps, dot_scale ps c (λ j. s (suc j))) (simp ring)

  pub dot-pow : (ps : List K) (x : K) → dot F ps (pow F x) ≡ eval F ps x
  dot-pow [] x = simp steps
  dot-pow (p ∷ ps) x = simp (steps, dot_scale ps x (pow F x), dot-pow ps x) (simp ring)

  pub pow_add : (x : K) (i j : ℕ) → pow F x (i + j) ≡ pow F x i ⊗ pow F x j
  pow_add x zero j = simp (zero-plus, steps, ring)
  pow_add x (suc i) j = simp (suc-plus, steps, pow_add x i j, ring)

  pub pow-pow : (x : K) (i j : ℕ) → pow F (pow F x i) j ≡ pow F x (i * j)
  pow-pow x i zero = simp (times_zero, steps)
  pow-pow x i (suc j) = pow_suc (pow F x i) j ∙ ap (λ u. pow F x i ⊗ u) (pow-pow x i j) ∙ sym (pow_add x i (i * j)) ∙ ap (pow F x) (omega (arith, times-suc i j))

  pub pow_swap : (x : K) (i j : ℕ) → pow F (pow F x i) j ≡ pow F (pow F x j) i
  pow_swap x i j = pow-pow x i j ∙ ap (pow F x) (times-comm i j) ∙ sym (pow-pow x j i)

  pub pow_not_zero : (x : K) (j : ℕ) → ¬ (x ≡ 𝟘) → ¬ (pow F x j ≡ 𝟘)
  pow_not_zero x zero h e = F.one_not_zero (sym (pow_zero x) ∙ e)
  pow_not_zero x (suc j) h e = pow_not_zero x j h (cancel F x (pow F x j) h (sym (pow_suc x j) ∙ e))

  pub dot_shift : (ps : List K) (x : K) (j : ℕ) → dot F ps (λ i. pow F x (i + j)) ≡ pow F x j ⊗ eval F ps x
  dot_shift ps x j = ap (dot F ps) (fun_ext (λ i. pow_add x i j ∙ mul_comm F (pow F x i) (pow F x j))) ∙ simp (dot_scale ps (pow F x j) (pow F x), dot-pow ps x)

  pub dot_ext : (ps : List K) (s t : ℕ → K) → ((j : ℕ) → j < length ps → s j ≡ t j) → dot F ps s ≡ dot F ps t
  dot_ext [] s t h = simp steps
  dot_ext (p ∷ ps) s t h = simp (steps, h 0 (omega arith), dot_ext ps (λ j. s (suc j)) (λ j. t (suc j)) (λ j k. h (suc j) (omega arith)))

  -- the quotient by x ⊕ z of a polynomial with a lowest coefficient in front of ps
  pub quotient : K → List K → List K
  quotient z [] = []
  quotient z (p ∷ ps) = eval F (p ∷ ps) z ∷ quotient z ps

  pub length_quotient : (z : K) (ps : List K) → length (quotient z ps) ≡ length ps
  unfolding quotient
  length_quotient z [] = refl
  length_quotient z (p ∷ ps) = ap suc (length_quotient z ps)

  pub eval_quotient : (p : K) (ps : List K) (z x : K) → eval F (p ∷ ps) x ≡ (x ⊕ z) ⊗ eval F (quotient z ps) x ⊕ eval F (p ∷ ps) z
  unfolding quotient
  eval_quotient p [] z x = simp (steps, ring)
  eval_quotient p (q ∷ ps) z x = eval_cons p (q ∷ ps) x ∙ ap (λ u. p ⊕ x ⊗ u) (eval_quotient q ps z x) ∙ (simp (eval_cons) (simp ring))

  pub zero_from_quotient : (z p : K) (ps : List K) → All (λ c. c ≡ 𝟘) (quotient z ps) → eval F (p ∷ ps) z ≡ 𝟘 → All (λ c. c ≡ 𝟘) (p ∷ ps)
  unfolding quotient
  zero_from_quotient z p [] h e = (simp (steps, ring) at e, tt)
  zero_from_quotient z p (q ∷ ps) h e = (simp (eval_cons p (q ∷ ps), h.0, ring) at e, zero_from_quotient z q ps h.1 h.0)

  -- terms at places of a type A, with their locators
  module _ {A : Type 0} (X : A → K) where
    pub at_nil : (v : A → K) (j : ℕ) → moment F X [] v j ≡ 𝟘
    unfolding moment sum
    at_nil v j = refl

    pub at_cons : (e : A) (es : List A) (v : A → K) (j : ℕ) → moment F X (e ∷ es) v j ≡ v e ⊗ pow F (X e) j ⊕ moment F X es v j
    unfolding moment sum
    at_cons e es v j = refl

    pub moment_zero : (es : List A) (v : A → K) (j : ℕ) → All (λ e. v e ≡ 𝟘) es → moment F X es v j ≡ 𝟘
    moment_zero [] v j h = at_nil v j
    moment_zero (e ∷ es) v j h = simp (at_cons, ring, h.0, moment_zero es v j h.1)

    -- Vandermonde: terms whose first moments are all zero are zero
    pub moment-passed : (es : List A) (v : A → K) (x : K) (j : ℕ) → moment F X es (λ e. v e ⊗ (X e ⊕ x)) j ≡ moment F X es v (suc j) ⊕ x ⊗ moment F X es v j
    moment-passed [] v x j = simp at_nil (simp ring)
    moment-passed (e ∷ es) v x j = simp (at_cons, moment-passed es v x j) (simp (steps, ring))

    pub moment_without_head : (e : A) (es : List A) (v : A → K) (j : ℕ) → moment F X es (λ d. v d ⊗ (X d ⊕ X e)) j ≡ moment F X (e ∷ es) v (suc j) ⊕ X e ⊗ moment F X (e ∷ es) v j
    moment_without_head e es v j = simp (at_cons, moment-passed es v (X e) j) (simp (steps, ring))

    pub zero_from_products : (x : K) (es : List A) (v : A → K) → All (λ d. ¬ (X d ≡ x)) es → All (λ d. v d ⊗ (X d ⊕ x) ≡ 𝟘) es → All (λ d. v d ≡ 𝟘) es
    zero_from_products x [] v ne z = tt
    zero_from_products x (e ∷ es) v ne z = (cancel F (X e ⊕ x) (v e) (λ h. ne.0 (same_from_sum F _ _ h)) (mul_comm F _ _ ∙ z.0), zero_from_products x es v ne.1 z.1)

    pub zero_from_moments : (es : List A) (v : A → K) → Apart F X es → ((j : ℕ) → j < length es → moment F X es v j ≡ 𝟘) → All (λ e. v e ≡ 𝟘) es
    zero_from_moments [] v apart z = tt
    zero_from_moments (e ∷ es) v apart z =
        let below : All (λ d. v d ⊗ (X d ⊕ X e) ≡ 𝟘) es
        = zero_from_moments es (λ d. v d ⊗ (X d ⊕ X e)) apart.1 (λ j h. moment_without_head e es v j ∙ simp (z (suc j) (omega arith), z j (omega arith), ring)) in
        let rest : All (λ d. v d ≡ 𝟘) es = zero_from_products (X e) es v apart.0 below in
        let top : v e ≡ moment F X (e ∷ es) v 0 = simp (at_cons, steps, moment_zero es v 0 rest, ring) in
        (top ∙ z 0 (omega arith), rest)

    pub dot-moment : (es : List A) (v : A → K) (ps : List K) (j : ℕ) → dot F ps (λ i. moment F X es v (i + j)) ≡ moment F X es (λ e. v e ⊗ eval F ps (X e)) j
    dot-moment [] v ps j = simp (at_nil, dot_zero ps)
    dot-moment (e ∷ es) v ps j = simp (at_cons, dot_add ps (v e) (λ i. pow F (X e) (i + j)) (λ i. moment F X es v (i + j)), dot_shift ps (X e) j, dot-moment es v ps j) (simp ring)

    -- the key theorem: what annihilates the moments is zero at each locator
    pub zero_at_locators : (es : List A) (v : A → K) (ps : List K) → Apart F X es → All (λ e. ¬ (v e ≡ 𝟘)) es
        → ((j : ℕ) → j < length es → dot F ps (λ i. moment F X es v (i + j)) ≡ 𝟘) → All (λ e. eval F ps (X e) ≡ 𝟘) es
    zero_at_locators es v ps apart ne z =
        all_both (λ e. ¬ (v e ≡ 𝟘)) (λ e. v e ⊗ eval F ps (X e) ≡ 𝟘) (λ e. eval F ps (X e) ≡ 𝟘) (λ e h k. cancel F (v e) (eval F ps (X e)) h k) es ne
        (zero_from_moments es (λ e. v e ⊗ eval F ps (X e)) apart (λ j h. sym (dot-moment es v ps j) ∙ z j h))

    -- at most as many zeros as the degree
    pub few_zeros : (es : List A) (ps : List K) → Apart F X es → All (λ e. eval F ps (X e) ≡ 𝟘) es → length ps ≤ length es → All (λ c. c ≡ 𝟘) ps
    few_zeros [] [] apart z h = tt
    few_zeros [] (p ∷ ps) apart z h = absurd (omega arith)
    few_zeros (e ∷ es) [] apart z h = tt
    few_zeros (e ∷ es) (p ∷ ps) apart z h =
        zero_from_quotient (X e) p ps
        (few_zeros es (quotient (X e) ps) apart.1
        (all_both (λ d. ¬ (X d ≡ X e)) (λ d. eval F (p ∷ ps) (X d) ≡ 𝟘) (λ d. eval F (quotient (X e) ps) (X d) ≡ 𝟘)
        (λ d k m. cancel F (X d ⊕ X e) (eval F (quotient (X e) ps) (X d)) (λ w. k (same_from_sum F _ _ w)) (simp (eval_quotient p ps (X e) (X d), z.0, add_zero) at m))
        es apart.0 z.1)
        (omega (arith, length_quotient (X e) ps)))
        z.0

    pub turned-moment : (qs es : List A) (v : A → K) (j : ℕ) → turned F X qs (moment F X es v) j ≡ moment F X es (λ e. v e ⊗ factors F X qs (X e)) j
    unfolding turned factors
    turned-moment [] es v j = simp mul_one
    turned-moment (q ∷ qs) es v j =
        ap (λ s. turned F X qs s j) (fun_ext (λ i. sym (moment-passed es v (X q) i))) ∙ turned-moment qs es (λ e. v e ⊗ (X e ⊕ X q)) j ∙ simp mul_assoc

    pub turned_ext : (qs : List A) (s t : ℕ → K) (i : ℕ) → ((j : ℕ) → j ≤ length qs + i → s j ≡ t j) → turned F X qs s i ≡ turned F X qs t i
    unfolding turned
    turned_ext [] s t i h = h i (omega arith)
    turned_ext (q ∷ qs) s t i h = turned_ext qs _ _ i (λ j k. ap₂ (λ a b. a ⊕ X q ⊗ b) (h (suc j) (omega arith)) (h j (omega arith)))

    pub factors_zero : (qs : List A) → All (λ q. factors F X qs (X q) ≡ 𝟘) qs
    unfolding factors
    factors_zero [] = tt
    factors_zero (q ∷ qs) = (simp ring, All-weaker _ _ (λ d h. ap (λ u. (X d ⊕ X q) ⊗ u) h ∙ mul_zero F _) qs (factors_zero qs))

    pub factors_not_zero : (qs : List A) (x : K) → All (λ q. ¬ (X q ≡ x)) qs → ¬ (factors F X qs x ≡ 𝟘)
    unfolding factors
    factors_not_zero [] x h e = F.one_not_zero e
    factors_not_zero (q ∷ qs) x h e = factors_not_zero qs x h.1 (cancel F (x ⊕ X q) (factors F X qs x) (λ k. h.0 (sym (same_from_sum F x (X q) k))) e)

    -- the places that a test keeps
    pub apart_kept : (t : A → Bool) (es : List A) → Apart F X es → Apart F X (filter t es)
    apart_kept t [] h = tt
    apart_kept t (e ∷ es) h = go (t e) (apart_kept t es h.1)
      where
        go : (b : Bool) → Apart F X (filter t es) → Apart F X (cond b (e ∷ filter t es) (filter t es))
        go true k = (all_kept_by t (λ d. ¬ (X d ≡ X e)) es h.0, k)
        go false k = k

    -- the test drops nothing that counts
    pub moment_kept : (t : A → Bool) (es : List A) (v : A → K) (j : ℕ) → All (λ e. t e ≡ false → v e ≡ 𝟘) es → moment F X (filter t es) v j ≡ moment F X es v j
    moment_kept t [] v j h = refl
    moment_kept t (e ∷ es) v j h = go (t e) h.0 (moment_kept t es v j h.1)
      where
        go : (b : Bool) → (b ≡ false → v e ≡ 𝟘) → moment F X (filter t es) v j ≡ moment F X es v j → moment F X (cond b (e ∷ filter t es) (filter t es)) v j ≡ moment F X (e ∷ es) v j
        go true k ih = simp (at_cons, ih)
        go false k ih = simp (at_cons, ih, k refl, ring)

    pub moment_add : (es : List A) (a b : A → K) (j : ℕ) → moment F X es (λ e. a e ⊕ b e) j ≡ moment F X es a j ⊕ moment F X es b j
    moment_add [] a b j = simp at_nil (simp ring)
    moment_add (e ∷ es) a b j = simp (at_cons, moment_add es a b j) (simp ring)

    pub wrong-moment : (es : List A) (v : A → K) (j : ℕ) → moment F X (wrong F X v es) v j ≡ moment F X es v j
    wrong-moment es v j = moment_kept _ es v j (all_always _ (λ e h. is_zero_true F (v e) (not-false _ h)) es)

    -- few terms whose first moments are zero are none
    pub zero_from_few : (es : List A) (v : A → K) (n : ℕ) → Apart F X es → length (wrong F X v es) ≤ n → ((j : ℕ) → j < n → moment F X es v j ≡ 𝟘) → All (λ e. v e ≡ 𝟘) es
    zero_from_few es v n apart few z =
        All-weaker _ _ (λ e h. either_way (is_zero F (v e)) (is_zero_true F (v e)) (λ k. h (ap not k))) es
        (all_if_kept _ _ es (zero_from_moments (wrong F X v es) v (apart_kept _ es apart) (λ j h. wrong-moment es v j ∙ z j (omega arith))))

    -- words with the same syndromes that differ in few places are the same
    pub same_from_moments : (es : List A) (a b : A → K) (n : ℕ) → Apart F X es → length (wrong F X (λ e. a e ⊕ b e) es) ≤ n
        → ((j : ℕ) → j < n → moment F X es a j ≡ moment F X es b j) → All (λ e. a e ≡ b e) es
    same_from_moments es a b n apart few z =
        All-weaker _ _ (λ e h. same_from_sum F (a e) (b e) h) es
        (zero_from_few es (λ e. a e ⊕ b e) n apart few (λ j h. moment_add es a b j ∙ simp (z j h, ring)))

    -- the passes of all other terms leave one term
    pub turned_alone : (t : A → Bool) (es : List A) (v : A → K) (p : A) → filter t es ≡ p ∷ []
        → turned F X (filter (λ e. not (t e)) es) (moment F X es v) 0 ≡ v p ⊗ factors F X (filter (λ e. not (t e)) es) (X p)
    turned_alone t es v p one =
        let qs = filter (λ e. not (t e)) es in
        let u : A → K = λ e. v e ⊗ factors F X qs (X e) in
        let taken-away : All (λ e. t e ≡ false → u e ≡ 𝟘) es
        = All-weaker _ _ (λ e h k. ap (λ x. v e ⊗ x) (h (ap not k)) ∙ mul_zero F (v e)) es (all_if_kept (λ e. not (t e)) _ es (factors_zero qs)) in
        turned-moment qs es v 0 ∙ sym (moment_kept t es u 0 taken-away) ∙ ap (λ l. moment F X l u 0) one ∙ (simp (at_cons, at_nil, pow_zero) (simp ring))

    -- fewer zeros than coefficients
    pub few_kept : (t : A → Bool) (es : List A) (ps : List K) → Apart F X es → ¬ All (λ c. c ≡ 𝟘) ps
        → ((e : A) → t e ≡ true → eval F ps (X e) ≡ 𝟘) → length (filter t es) < length ps
    few_kept t es ps apart ne zero-at = elim (dec_le (length ps) (length (filter t es))) [
      | yes h ↦ absurd (ne (few_zeros (filter t es) ps (apart_kept t es apart) (All-weaker _ _ zero-at (filter t es) (kept_by_passes t es)) h))
      | no h ↦ omega arith
    ]

    -- what annihilates the moments of few errors is zero at the place of each
    pub zero_if_not_root : (es : List A) (v : A → K) (f : ℕ) (ps : List K) → Apart F X es → length (wrong F X v es) ≤ f
        → ((j : ℕ) → j < f → dot F ps (λ i. moment F X es v (i + j)) ≡ 𝟘) → All (λ e. ¬ (eval F ps (X e) ≡ 𝟘) → v e ≡ 𝟘) es
    zero_if_not_root es v f ps apart few z =
        All-weaker _ _ (λ e h k. either_way (is_zero F (v e)) (is_zero_true F (v e)) (λ m. absurd (k (h (ap not m))))) es
        (all_if_kept _ _ es (zero_at_locators (wrong F X v es) v ps (apart_kept _ es apart)
        (All-weaker _ _ (λ e k. is_zero_false F (v e) (not-true _ k)) (wrong F X v es) (kept_by_passes _ es))
        (λ j h. ap (dot F ps) (fun_ext (λ i. wrong-moment es v (i + j))) ∙ z j (omega arith))))

    -- s has the first moments of at most f errors, ps annihilates them, and the test t finds the zeros of ps: each error's place is a zero, and its value is known
    module _ (es : List A) (v : A → K) (f : ℕ) (s : ℕ → K) (ps : List K) (apart : Apart F X es) (few : length (wrong F X v es) ≤ f)
        (known : (j : ℕ) → j < f + f → s j ≡ moment F X es v j) (size : length ps ≤ suc f) (ne : ¬ All (λ c. c ≡ 𝟘) ps)
        (z : (j : ℕ) → j < f → dot F ps (λ i. s (i + j)) ≡ 𝟘) (t : A → Bool) (zero-at : (e : A) → t e ≡ true → eval F ps (X e) ≡ 𝟘)
        (not-zero-at : (e : A) → t e ≡ false → ¬ (eval F ps (X e) ≡ 𝟘)) where
      pub zero_if_not_kept : All (λ e. t e ≡ false → v e ≡ 𝟘) es
      zero_if_not_kept =
          All-weaker _ _ (λ e h k. h (not-zero-at e k)) es
          (zero_if_not_root es v f ps apart few (λ j h. sym (dot_ext ps _ _ (λ i k. known (i + j) (omega arith))) ∙ z j h))

      pub turned-value : (only : A → Bool) (p : A) → filter only (filter t es) ≡ p ∷ []
          → turned F X (filter (λ e. not (only e)) (filter t es)) s 0 ≡ v p ⊗ factors F X (filter (λ e. not (only e)) (filter t es)) (X p)
      turned-value only p one =
          let zs = filter t es in
          let qs = filter (λ e. not (only e)) zs in
          let short : suc (length qs) ≤ f = omega (arith, few_kept t es ps apart ne zero-at, ap length one, length-filter_both only (λ e. not (only e)) (λ e. refl) zs) in
          turned_ext qs s (moment F X zs v) 0 (λ j h. known j (omega arith) ∙ sym (moment_kept t es v j zero_if_not_kept)) ∙ turned_alone only zs v p one
