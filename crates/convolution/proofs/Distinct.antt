-- Words of equal length with the same marks are the same: every step keeps a mark, and every mark turns with the newest bit.
use Rattle.std.proofs.Common.{◌≡◌, ℕ, zero, suc, ◌+◌, ◌-◌, ◌*◌, ◌%◌, ◌<◌, ◌≤◌, Bool, true, false, cond, not, eqb, ◌⊎◌, List, [], ◌∷◌, ◌++◌, length, get_or, take, drop, sym, refl, ap, ◌∙◌, inl, inr, add-zero, arith}
use Rattle.std.proofs.lemmas.List.{get_or_append_left, get_or-append_right, take_at, drop_at, ext_get_or}
use Rattle.std.proofs.lemmas.Bool.{eqb-true, cases_lt}
use Rattle.convolution.specs.declared.rate.Rate.{Rate}
use Rattle.convolution.specs.declared.rate.Rate.TheVariants.{Half, TwoThirds, ThreeQuarters, Third}
use Rattle.convolution.specs.Code.{Word, bit, zeros, window, mark, keeps, kept_from, step_marks, marks_to, marks, fed}
use Rattle.convolution.specs.Slots.{generator_at}
use Rattle.convolution.proofs.Pattern.{length-marks_to}
use Rattle.convolution.proofs.Pricing.{mark_turns}
use Rattle.convolution.proofs.Windows.{bit_below}

-- steps with the same kept marks have the same mark of one of the first two generators
step_tells : (rate : Rate) (t w v : ℕ) → step_marks rate t w ≡ step_marks rate t v
    → (mark (generator_at rate 0) w ≡ mark (generator_at rate 0) v) ⊎ (mark (generator_at rate 1) w ≡ mark (generator_at rate 1) v)
unfolding step_marks kept_from keeps
step_tells Half t w v e = inl (ap (λ (l : List ℕ). get_or l 0 0) e)
step_tells Third t w v e = inl (ap (λ (l : List ℕ). get_or l 0 0) e)
step_tells TwoThirds t w v e = go (eqb (t % 2) 0) e
  where
    go : (b : Bool) → cond b (mark 0o171 w ∷ mark 0o133 w ∷ []) (mark 0o133 w ∷ []) ≡ cond b (mark 0o171 v ∷ mark 0o133 v ∷ []) (mark 0o133 v ∷ [])
        → (mark 0o171 w ≡ mark 0o171 v) ⊎ (mark 0o133 w ≡ mark 0o133 v)
    go true e = inl (ap (λ (l : List ℕ). get_or l 0 0) e)
    go false e = inr (ap (λ (l : List ℕ). get_or l 0 0) e)
step_tells ThreeQuarters t w v e = go (eqb (t % 3) 1) (eqb (t % 3) 2) refl refl e
  where
    kept : Bool → Bool → ℕ → List ℕ
    kept a b x = cond (not a) (mark 0o171 x ∷ cond (not b) (mark 0o133 x ∷ []) []) (cond (not b) (mark 0o133 x ∷ []) [])

    go : (a b : Bool) → eqb (t % 3) 1 ≡ a → eqb (t % 3) 2 ≡ b → kept a b w ≡ kept a b v → (mark 0o171 w ≡ mark 0o171 v) ⊎ (mark 0o133 w ≡ mark 0o133 v)
    go false b p q e = inl (ap (λ (l : List ℕ). get_or l 0 0) e)
    go true false p q e = inr (ap (λ (l : List ℕ). get_or l 0 0) e)
    go true true p q e = absurd (omega (arith, eqb-true (t % 3) 1 p, eqb-true (t % 3) 2 q))

turned_differs : (rate : Rate) (t low : ℕ) → low < 64 → step_marks rate t (low + 64) ≡ step_marks rate t low → ⊥
turned_differs rate t low h e = elim (step_tells rate t (low + 64) low e) [ inl m ↦ omega (arith, mark_turns rate 0 low h) | inr m ↦ omega (arith, mark_turns rate 1 low h) ]

-- windows with the same six older bits and the same marks have the same newest bit
bit_tells : (rate : Rate) (t low : ℕ) (b c : Bool) → low < 64 → step_marks rate t (low + 64 * bit b) ≡ step_marks rate t (low + 64 * bit c) → b ≡ c
bit_tells rate t low true true h e = refl
bit_tells rate t low false false h e = refl
bit_tells rate t low true false h e = absurd (turned_differs rate t low h (e ∙ ap (step_marks rate t) (add-zero low)))
bit_tells rate t low false true h e = absurd (turned_differs rate t low h (sym e ∙ ap (step_marks rate t) (add-zero low)))

-- the six older bits of the window at place t
low : Word → ℕ → ℕ
low y t =
    bit (get_or y t false) + 2 * bit (get_or y (t + 1) false) + 4 * bit (get_or y (t + 2) false) + 8 * bit (get_or y (t + 3) false) + 16 * bit (get_or y (t + 4) false) + 32 * bit (get_or y (t + 5) false)

low_below : (y : Word) (t : ℕ) → low y t < 64
unfolding low
low_below y t =
    omega (arith, bit_below (get_or y t false), bit_below (get_or y (t + 1) false), bit_below (get_or y (t + 2) false), bit_below (get_or y (t + 3) false), bit_below (get_or y (t + 4) false), bit_below (get_or y (t + 5) false))

window_parts : (w : Word) (t : ℕ) → window w t ≡ low (zeros 6 ++ w) t + 64 * bit (get_or w t false)
unfolding window low
window_parts w t =
    let back : t + 6 - 6 ≡ t = omega arith in
    ap (λ (b : Bool). low (zeros 6 ++ w) t + 64 * bit b) (get_or-append_right (zeros 6) w 6 (t + 6) false refl (omega arith) ∙ ap (λ (k : ℕ). get_or w k false) back)

module _ (u v : Word) (t : ℕ) (same : (k : ℕ) → k < t → get_or u k false ≡ get_or v k false) where
  front_same : (j : ℕ) → j < t + 6 → get_or (zeros 6 ++ u) j false ≡ get_or (zeros 6 ++ v) j false
  front_same j l = elim (cases_lt j 6) [
    | inl m ↦ get_or_append_left (zeros 6) u false j m ∙ sym (get_or_append_left (zeros 6) v false j m)
    | inr m ↦ get_or-append_right (zeros 6) u 6 j false refl m ∙ same (j - 6) (omega arith) ∙ sym (get_or-append_right (zeros 6) v 6 j false refl m)
  ]

  low_same : low (zeros 6 ++ u) t ≡ low (zeros 6 ++ v) t
  unfolding low
  low_same =
      let f = λ (j : ℕ) (l : j < t + 6). ap bit (front_same j l) in
      omega (arith, f t (omega arith), f (t + 1) (omega arith), f (t + 2) (omega arith), f (t + 3) (omega arith), f (t + 4) (omega arith), f (t + 5) (omega arith))

  next_same : (rate : Rate) → step_marks rate t (window u t) ≡ step_marks rate t (window v t) → get_or u t false ≡ get_or v t false
  next_same rate e =
      bit_tells rate t (low (zeros 6 ++ v) t) (get_or u t false) (get_or v t false) (low_below (zeros 6 ++ v) t)
      (ap (λ (x : ℕ). step_marks rate t (x + 64 * bit (get_or u t false))) (sym low_same) ∙ ap (step_marks rate t) (sym (window_parts u t)) ∙ e ∙ ap (step_marks rate t) (window_parts v t))

halves_same : (a b c d : List ℕ) → length a ≡ length b → a ++ c ≡ b ++ d → (a ≡ b) × (c ≡ d)
halves_same a b c d l e = (
  sym (take_at a c (length b) l) ∙ ap (take (length b)) e ∙ take_at b d (length b) refl,
  sym (drop_at a c (length b) l) ∙ ap (drop (length b)) e ∙ drop_at b d (length b) refl,
)

steps_same : (rate : Rate) (u v : Word) (n : ℕ) → marks_to rate u n ≡ marks_to rate v n → (t : ℕ) → t < n → step_marks rate t (window u t) ≡ step_marks rate t (window v t)
unfolding marks_to
steps_same rate u v zero e t l = absurd (omega arith)
steps_same rate u v (suc n) e t l =
    let parts = halves_same (marks_to rate u n) (marks_to rate v n) _ _ (length-marks_to rate u n ∙ sym (length-marks_to rate v n)) e in
    elim (cases_lt t n) [
      | inl m ↦ steps_same rate u v n parts.0 t m
      | inr m ↦ let is : t ≡ n = omega arith in ap (λ (k : ℕ). step_marks rate k (window u k)) is ∙ parts.1 ∙ ap (λ (k : ℕ). step_marks rate k (window v k)) (sym is)
    ]

bits_same : (rate : Rate) (u v : Word) (n : ℕ) → ((t : ℕ) → t < n → step_marks rate t (window u t) ≡ step_marks rate t (window v t)) → (t : ℕ) → t ≤ n → (k : ℕ) → k < t
    → get_or u k false ≡ get_or v k false
bits_same rate u v n e zero h k l = absurd (omega arith)
bits_same rate u v n e (suc t) h k l = elim (cases_lt k t) [
  | inl m ↦ bits_same rate u v n e t (omega arith) k m
  | inr m ↦
      let is : k ≡ t = omega arith in
      ap (λ (j : ℕ). get_or u j false) is ∙ next_same u v t (bits_same rate u v n e t (omega arith)) rate (e t (omega arith)) ∙ ap (λ (j : ℕ). get_or v j false) (sym is)
]

-- data bits of equal length with the same marks are the same
pub marks_one_to_one : (rate : Rate) (u v : Word) → length u ≡ length v → marks rate u ≡ marks rate v → u ≡ v
unfolding marks
marks_one_to_one rate u v l e =
    let n : ℕ = length v + 6 in
    let same : marks_to rate (fed u) (length v + 6) ≡ marks_to rate (fed v) (length v + 6) = ap (λ (k : ℕ). marks_to rate (fed u) (k + 6)) (sym l) ∙ e in
    ext_get_or false u v l (λ k h.
    sym (get_or_append_left u (zeros 6) false k h)
    ∙ bits_same rate (fed u) (fed v) (length v + 6) (steps_same rate (fed u) (fed v) (length v + 6) same) (length v) (omega arith) k (omega arith)
    ∙ get_or_append_left v (zeros 6) false k (omega arith)
    )
