-- The costs of a step, a slot for each generator.
use Rattle.std.proofs.Common.{◌≡◌, ℕ, zero, suc, ◌+◌, ◌-◌, ◌%◌, ◌<◌, ◌≤◌, Bool, true, false, cond, not, ◌&&◌, eqb, ltb, List, [], ◌∷◌, ◌++◌, length, get_or, take, set, sym, refl, ap, ◌∙◌, subst, inl, inr, add-zero, add_assoc, zero-add, add-one, arith}
use Rattle.std.proofs.lemmas.List.{get_or_append_left, get_or-append_right, get_or-set_same, get_or-set_other, get_or-take, length-take-le}
use Rattle.std.proofs.lemmas.Bool.{cases_lt}
use Rattle.convolution.specs.declared.rate.Rate.{Rate}
use Rattle.convolution.specs.declared.rate.Rate.TheVariants.{Half, TwoThirds, ThreeQuarters, Third}
use Rattle.convolution.specs.Code.{bit, generators, keeps, kept_from, step_marks, marks_before}
use Rattle.convolution.specs.declared.costs.StepCosts.{StepCosts}
use Rattle.convolution.specs.Slots.{Prices, Small, costs_of, kept_before, slot}

-- whether a rate has generator g and keeps its mark at step t
abbrev pub has : Rate → ℕ → ℕ → Bool
has rate t g = ltb g (length (generators rate)) && keeps rate t g

pub has_half : (rate : Rate) (t : ℕ) → rate ≡ Half → (g : ℕ) → g < 3 → get_or (true ∷ true ∷ false ∷ []) g false ≡ has rate t g
unfolding keeps
has_half rate t e zero h = sym (ap (λ r. has r t 0) e)
has_half rate t e (suc zero) h = sym (ap (λ r. has r t 1) e)
has_half rate t e (suc (suc zero)) h = sym (ap (λ r. has r t 2) e)
has_half rate t e (suc (suc (suc g))) h = absurd (omega arith)

pub has_two_thirds : (rate : Rate) (t : ℕ) → rate ≡ TwoThirds → (g : ℕ) → g < 3 → get_or (eqb (t % 2) 0 ∷ true ∷ false ∷ []) g false ≡ has rate t g
unfolding keeps
has_two_thirds rate t e zero h = sym (ap (λ r. has r t 0) e)
has_two_thirds rate t e (suc zero) h = sym (ap (λ r. has r t 1) e)
has_two_thirds rate t e (suc (suc zero)) h = sym (ap (λ r. has r t 2) e)
has_two_thirds rate t e (suc (suc (suc g))) h = absurd (omega arith)

pub has_three_quarters : (rate : Rate) (t : ℕ) → rate ≡ ThreeQuarters → (g : ℕ) → g < 3 → get_or (not (eqb (t % 3) 1) ∷ not (eqb (t % 3) 2) ∷ false ∷ []) g false ≡ has rate t g
unfolding keeps
has_three_quarters rate t e zero h = sym (ap (λ r. has r t 0) e)
has_three_quarters rate t e (suc zero) h = sym (ap (λ r. has r t 1) e)
has_three_quarters rate t e (suc (suc zero)) h = sym (ap (λ r. has r t 2) e)
has_three_quarters rate t e (suc (suc (suc g))) h = absurd (omega arith)

pub has_third : (rate : Rate) (t : ℕ) → rate ≡ Third → (g : ℕ) → g < 3 → get_or (true ∷ true ∷ true ∷ []) g false ≡ has rate t g
unfolding keeps
has_third rate t e zero h = sym (ap (λ r. has r t 0) e)
has_third rate t e (suc zero) h = sym (ap (λ r. has r t 1) e)
has_third rate t e (suc (suc zero)) h = sym (ap (λ r. has r t 2) e)
has_third rate t e (suc (suc (suc g))) h = absurd (omega arith)

-- the number of a step's marks
pub step_count : (rate : Rate) (t : ℕ) → marks_before rate (t + 1) ≡ marks_before rate t + bit (has rate t 0) + bit (has rate t 1) + bit (has rate t 2)
unfolding marks_before step_marks kept_from keeps
step_count Half t = ap (marks_before Half) (add-one t) ∙ omega arith
step_count Third t = ap (marks_before Third) (add-one t) ∙ omega arith
step_count TwoThirds t = ap (marks_before TwoThirds) (add-one t) ∙ go (eqb (t % 2) 0) (marks_before TwoThirds t) _ _
  where
    go : (a : Bool) (n x y : ℕ) → n + length (cond a (x ∷ y ∷ []) (y ∷ [])) ≡ n + bit a + 1 + 0
    go true n x y = omega arith
    go false n x y = omega arith
step_count ThreeQuarters t = ap (marks_before ThreeQuarters) (add-one t) ∙ go (not (eqb (t % 3) 1)) (not (eqb (t % 3) 2)) (marks_before ThreeQuarters t) _ _
  where
    go : (a b : Bool) (n x y : ℕ) → n + length (cond a (x ∷ cond b (y ∷ []) []) (cond b (y ∷ []) [])) ≡ n + bit a + bit b + 0
    go true true n x y = omega arith
    go true false n x y = omega arith
    go false true n x y = omega arith
    go false false n x y = omega arith

-- every rate has two generators

has_first : (rate : Rate) (t : ℕ) → has rate t 0 ≡ keeps rate t 0
has_first Half t = refl
has_first TwoThirds t = refl
has_first ThreeQuarters t = refl
has_first Third t = refl

has_second : (rate : Rate) (t : ℕ) → has rate t 1 ≡ keeps rate t 1
has_second Half t = refl
has_second TwoThirds t = refl
has_second ThreeQuarters t = refl
has_second Third t = refl

-- a step's costs
abbrev pub three : ℕ → ℕ → ℕ → ℕ → ℕ → ℕ → StepCosts
three z0 o0 z1 o1 z2 o2 = record { marks = record { zero = z0; one = o0 } ∷ record { zero = z1; one = o1 } ∷ record { zero = z2; one = o2 } ∷ [] }

-- slots one after another: each that is there takes one reading
module _ (rate : Rate) (price : ℕ → ℕ → ℕ) (t i : ℕ) (at : i ≡ marks_before rate t) (a b c : Bool) (p : a ≡ has rate t 0) (q : b ≡ has rate t 1) (r : c ≡ has rate t 2) where
  slot_first : (m x : ℕ) → x ≡ cond a (price i m) 0 → x ≡ slot rate price t 0 m
  unfolding slot kept_before
  slot_first m x e = e ∙ (λ j. cond (p j) (price (at j) m) 0) ∙ ap (λ n. cond (has rate t 0) (price n m) 0) (sym (add-zero (marks_before rate t)))

  second_at : i + bit a ≡ marks_before rate t + (0 + bit (keeps rate t 0))
  second_at = (λ j. at j + bit ((p ∙ has_first rate t) j)) ∙ ap (λ n. marks_before rate t + n) (sym (zero-add (bit (keeps rate t 0))))

  slot_second : (m x : ℕ) → x ≡ cond b (price (i + bit a) m) 0 → x ≡ slot rate price t 1 m
  unfolding slot kept_before
  slot_second m x e = e ∙ (λ j. cond (q j) (price (second_at j) m) 0)

  third_at : i + bit a + bit b ≡ marks_before rate t + (0 + bit (keeps rate t 0) + bit (keeps rate t 1))
  third_at = (λ j. second_at j + bit ((q ∙ has_second rate t) j)) ∙ add_assoc (marks_before rate t) (0 + bit (keeps rate t 0)) (bit (keeps rate t 1))

  slot_third : (m x : ℕ) → x ≡ cond c (price (i + bit a + bit b) m) 0 → x ≡ slot rate price t 2 m
  unfolding slot kept_before
  slot_third m x e = e ∙ (λ j. cond (r j) (price (third_at j) m) 0)

  pub step_priced : (z0 z1 z2 o0 o1 o2 j k : ℕ) → j ≡ i + bit a → k ≡ j + bit b → z0 ≡ cond a (price i 0) 0 → z1 ≡ cond b (price j 0) 0 → z2 ≡ cond c (price k 0) 0 → o0 ≡ cond a (price i 1) 0
      → o1 ≡ cond b (price j 1) 0 → o2 ≡ cond c (price k 1) 0 → Prices rate price t (three z0 o0 z1 o1 z2 o2)
  step_priced z0 z1 z2 o0 o1 o2 j k ej ek e0 e1 e2 f0 f1 f2 = record { zeros = zs; ones = os }
    where
      third : k ≡ i + bit a + bit b
      third = ek ∙ ap (λ n. n + bit b) ej

      zs : (g : ℕ) → g < 3 → (costs_of (three z0 o0 z1 o1 z2 o2) g).zero ≡ slot rate price t g 0
      zs zero l = slot_first 0 z0 e0
      zs (suc zero) l = slot_second 0 z1 (e1 ∙ ap (λ n. cond b (price n 0) 0) ej)
      zs (suc (suc zero)) l = slot_third 0 z2 (e2 ∙ ap (λ n. cond c (price n 0) 0) third)
      zs (suc (suc (suc g))) l = absurd (omega arith)

      os : (g : ℕ) → g < 3 → (costs_of (three z0 o0 z1 o1 z2 o2) g).one ≡ slot rate price t g 1
      os zero l = slot_first 1 o0 f0
      os (suc zero) l = slot_second 1 o1 (f1 ∙ ap (λ n. cond b (price n 1) 0) ej)
      os (suc (suc zero)) l = slot_third 1 o2 (f2 ∙ ap (λ n. cond c (price n 1) 0) third)
      os (suc (suc (suc g))) l = absurd (omega arith)

-- where the readings of a step end, by which of its marks are kept
module _ (rate : Rate) (t : ℕ) (ks : List Bool) {i : ℕ} (at : i ≡ marks_before rate t) (kept : (g : ℕ) → g < 3 → get_or ks g false ≡ has rate t g) where
  pub step_end : (j k l : ℕ) → j ≡ i + bit (get_or ks 0 false) → k ≡ j + bit (get_or ks 1 false) → l ≡ k + bit (get_or ks 2 false) → l ≡ marks_before rate (t + 1)
  step_end j k l ej ek el = omega (arith, step_count rate t, ap bit (kept 0 (omega arith)), ap bit (kept 1 (omega arith)), ap bit (kept 2 (omega arith)))

  pub step_room : (s : ℕ) → marks_before rate (t + 1) ≤ s → i + bit (get_or ks 0 false) + bit (get_or ks 1 false) + bit (get_or ks 2 false) ≤ s
  step_room s h = omega (arith, step_end _ _ _ refl refl refl)

pub step_small : (z0 z1 z2 o0 o1 o2 : ℕ) → (z0 ≤ 128) × (o0 ≤ 128) → (z1 ≤ 128) × (o1 ≤ 128) → (z2 ≤ 128) × (o2 ≤ 128) → Small (three z0 o0 z1 o1 z2 o2)
step_small z0 z1 z2 o0 o1 o2 p q r = record { zeros = zs; ones = os }
  where
    zs : (g : ℕ) → g < 3 → (costs_of (three z0 o0 z1 o1 z2 o2) g).zero ≤ 128
    zs zero h = p.0
    zs (suc zero) h = q.0
    zs (suc (suc zero)) h = r.0
    zs (suc (suc (suc g))) h = absurd (omega arith)

    os : (g : ℕ) → g < 3 → (costs_of (three z0 o0 z1 o1 z2 o2) g).one ≤ 128
    os zero h = p.1
    os (suc zero) h = q.1
    os (suc (suc zero)) h = r.1
    os (suc (suc (suc g))) h = absurd (omega arith)

-- what holds of the first k elements and of a new one holds of the first k + 1
pub each_set : {T : Type 0} (P : ℕ → T → Type 0) (xs : List T) (k : ℕ) (x d : T) → k < length xs → ((j : ℕ) → j < k → P j (get_or xs j d)) → P k x → (j : ℕ) → j < k + 1 → P j (get_or (set xs k x) j d)
each_set P xs k x d h before here j l = elim (cases_lt j k) [
  | inl m ↦ subst (P j) (sym (get_or-set_other xs k j x d (λ e. absurd (omega arith)))) (before j m)
  | inr m ↦
      let e : k ≡ j = omega arith in
      subst (λ n. P n (get_or (set xs k x) n d)) e (subst (P k) (sym (get_or-set_same xs k x d h)) here)
]

-- what holds of the first n elements and of a run behind them holds of all of them
pub each_run : (P : ℕ → ℕ → Type 0) (xs run rest : List ℕ) (n k : ℕ) → n ≤ length xs → length run ≡ k → ((j : ℕ) → j < n → P j (get_or xs j 0)) → ((j : ℕ) → j < k → P (n + j) (get_or run j 0)) → (j : ℕ)
    → j < n + k → P j (get_or (take n xs ++ (run ++ rest)) j 0)
each_run P xs run rest n k h e before after j l =
    let front : length (take n xs) ≡ n = length-take-le n xs h in
    elim (cases_lt j n) [
      | inl m ↦ subst (P j) (sym (get_or_append_left (take n xs) (run ++ rest) 0 j (omega arith) ∙ get_or-take n xs j 0 m)) (before j m)
      | inr m ↦
          let at : n + (j - n) ≡ j = omega arith in
          subst (λ i. P i (get_or (take n xs ++ (run ++ rest)) j 0)) at
          (subst (P (n + (j - n))) (sym (get_or-append_right (take n xs) (run ++ rest) n j 0 front m ∙ get_or_append_left run rest 0 (j - n) (omega arith))) (after (j - n) (omega arith)))
    ]
