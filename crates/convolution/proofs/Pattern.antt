-- Which marks are kept: the patterns repeat every six steps, and their numbers have closed forms.
use Rattle.std.proofs.Common.{◌≡◌, ℕ, zero, suc, ◌+◌, ◌*◌, ◌/◌, ◌%◌, ◌^◌, ◌<◌, ◌≤◌, Bool, true, false, cond, not, ◌&&◌, eqb, ◌⊎◌, List, [], ◌∷◌, length, get_or, sym, refl, ap, ◌∙◌, ap₂, ⊎_elim, inl, inr, arith}
use Rattle.std.proofs.Math.Nat.{zero-div}
use Rattle.std.proofs.lemmas.Nat.{shr-shr}
use Rattle.std.proofs.lemmas.List.{length-append}
use Rattle.std.proofs.lemmas.Bool.{eqb-true, eqb-false, and_parts, cases_lt}
use Rattle.convolution.specs.declared.rate.Rate.{Rate}
use Rattle.convolution.specs.declared.rate.Rate.TheVariants.{Half, TwoThirds, ThreeQuarters, Third}
use Rattle.convolution.specs.Code.{Word, mark, keeps, kept_from, step_marks, window, marks_to, marks, fed, marks_before, generators}
use Rattle.convolution.specs.Encoding.{kept_bit, KeptBits}

below : (ℕ → Bool) → ℕ → Bool
below f zero = true
below f (suc n) = f n && below f n

below_at : (f : ℕ → Bool) (n : ℕ) → below f n ≡ true → (k : ℕ) → k < n → f k ≡ true
unfolding below
below_at f zero h k l = absurd (omega arith)
below_at f (suc n) h k l =
    let parts = and_parts (f n) (below f n) h in
    ⊎_elim (λ m. below_at f n parts.1 k m) (λ m. let e : k ≡ n = omega arith in ap f e ∙ parts.0) (cases_lt k n)

keeps_again : (rate : Rate) (t s g : ℕ) → t % 6 ≡ s % 6 → keeps rate t g ≡ keeps rate s g
unfolding keeps
keeps_again Half t s g e = refl
keeps_again Third t s g e = refl
keeps_again TwoThirds t s zero e = let h : t % 2 ≡ s % 2 = omega arith in ap (λ (n : ℕ). eqb n 0) h
keeps_again TwoThirds t s (suc g) e = refl
keeps_again ThreeQuarters t s zero e = let h : t % 3 ≡ s % 3 = omega arith in ap (λ (n : ℕ). not (eqb n 1)) h
keeps_again ThreeQuarters t s (suc g) e = let h : t % 3 ≡ s % 3 = omega arith in ap (λ (n : ℕ). not (eqb n 2)) h

kept_again : (rate : Rate) (t s v g : ℕ) (ms : List ℕ) → t % 6 ≡ s % 6 → kept_from rate t v g ms ≡ kept_from rate s v g ms
unfolding kept_from
kept_again rate t s v g [] e = refl
kept_again rate t s v g (m ∷ ms) e =
    ap₂ (λ (b : Bool) (l : List ℕ). cond b (mark m v ∷ l) l) (keeps_again rate t s g e) (kept_again rate t s v (suc g) ms e)

-- the pattern of a step is that of the step six before
pub step_marks_again : (rate : Rate) (t s v : ℕ) → t % 6 ≡ s % 6 → step_marks rate t v ≡ step_marks rate s v
unfolding step_marks
step_marks_again rate t s v e = kept_again rate t s v 0 (generators rate) e

kept_length : (rate : Rate) (t v g : ℕ) (ms : List ℕ) → length (kept_from rate t v g ms) ≡ length (kept_from rate t 0 g ms)
unfolding kept_from
kept_length rate t v g [] = refl
kept_length rate t v g (m ∷ ms) = go (keeps rate t g) (kept_length rate t v (suc g) ms)
  where
    go : (b : Bool) → length (kept_from rate t v (suc g) ms) ≡ length (kept_from rate t 0 (suc g) ms)
        → length (cond b (mark m v ∷ kept_from rate t v (suc g) ms) (kept_from rate t v (suc g) ms)) ≡ length (cond b (mark m 0 ∷ kept_from rate t 0 (suc g) ms) (kept_from rate t 0 (suc g) ms))
    go true e = ap suc e
    go false e = e

-- the number of a step's marks does not depend on its window
pub length-step_marks : (rate : Rate) (t v : ℕ) → length (step_marks rate t v) ≡ length (step_marks rate t 0)
unfolding step_marks
length-step_marks rate t v = kept_length rate t v 0 (generators rate)

pub length-marks_to : (rate : Rate) (w : Word) (n : ℕ) → length (marks_to rate w n) ≡ marks_before rate n
unfolding marks_to marks_before
length-marks_to rate w zero = refl
length-marks_to rate w (suc t) =
    length-append (marks_to rate w t) (step_marks rate t (window w t)) ∙ ap₂ ◌+◌ (length-marks_to rate w t) (length-step_marks rate t (window w t))

pub length-marks : (rate : Rate) (w : Word) → length (marks rate w) ≡ marks_before rate (length w + 6)
unfolding marks
length-marks rate w = length-marks_to rate (fed w) (length w + 6)

-- the patterns as numbers, step t in bit t, for sixteen steps
abbrev pub patterns : Rate → List ℕ
patterns Half = 0xffff ∷ 0xffff ∷ 0 ∷ []
patterns TwoThirds = 0x5555 ∷ 0xffff ∷ 0 ∷ []
patterns ThreeQuarters = 0xdb6d ∷ 0xb6db ∷ 0 ∷ []
patterns Third = 0xffff ∷ 0xffff ∷ 0xffff ∷ []

agrees : Rate → ℕ → ℕ → Bool
agrees rate g t = eqb (get_or (patterns rate) g 0 / 2 ^ t % 2) (kept_bit rate g t)

all_agree : (rate : Rate) (g : ℕ) → g < 3 → below (agrees rate g) 16 ≡ true
unfolding agrees below kept_bit keeps
all_agree Half zero h = refl
all_agree Half (suc zero) h = refl
all_agree Half (suc (suc zero)) h = refl
all_agree Half (suc (suc (suc g))) h = absurd (omega arith)
all_agree TwoThirds zero h = refl
all_agree TwoThirds (suc zero) h = refl
all_agree TwoThirds (suc (suc zero)) h = refl
all_agree TwoThirds (suc (suc (suc g))) h = absurd (omega arith)
all_agree ThreeQuarters zero h = refl
all_agree ThreeQuarters (suc zero) h = refl
all_agree ThreeQuarters (suc (suc zero)) h = refl
all_agree ThreeQuarters (suc (suc (suc g))) h = absurd (omega arith)
all_agree Third zero h = refl
all_agree Third (suc zero) h = refl
all_agree Third (suc (suc zero)) h = refl
all_agree Third (suc (suc (suc g))) h = absurd (omega arith)

-- each bit of the patterns says whether the mark is kept
pub pattern_at : {rate r : Rate} → rate ≡ r → (g p i : ℕ) → g < 3 → p < 6 → i < 8 → get_or (patterns r) g 0 / 2 ^ p / 2 ^ i % 2 ≡ kept_bit rate g (p + i)
unfolding agrees
pattern_at {rate} {r} same g p i h k l =
    ap (λ (n : ℕ). n % 2) (shr-shr (get_or (patterns r) g 0) p i) ∙ eqb-true _ _ (below_at (agrees r g) 16 (all_agree r g h) (p + i) (omega arith)) ∙ ap (λ s. kept_bit s g (p + i)) (sym same)

-- the patterns of a rate of two generators, from step p on
pub kept_rows : {rate : Rate} (ps : List ℕ) (p a b : ℕ) → (rate ≡ Half) ⊎ (rate ≡ TwoThirds) ⊎ (rate ≡ ThreeQuarters) → p < 6 → ((g p i : ℕ) → g < 3 → p < 6 → i < 8 → get_or ps g 0 / 2 ^ p / 2 ^ i % 2 ≡ kept_bit rate g (p + i))
    → a ≡ get_or ps 0 0 / 2 ^ p → b ≡ get_or ps 1 0 / 2 ^ p → KeptBits rate p (a ∷ b ∷ 0 ∷ [])
unfolding kept_bit
kept_rows ps p a b two k at d e zero i h l = ap (λ n. n / 2 ^ i % 2) d ∙ at 0 p i h k l
kept_rows ps p a b two k at d e (suc zero) i h l = ap (λ n. n / 2 ^ i % 2) e ∙ at 1 p i h k l
kept_rows ps p a b two k at d e (suc (suc zero)) i h l = ap (λ n. n % 2) (zero-div (2 ^ i)) ∙ elim two [
  | inl e ↦ ap (λ r. kept_bit r 2 (p + i)) (sym e)
  | inr (inl e) ↦ ap (λ r. kept_bit r 2 (p + i)) (sym e)
  | inr (inr e) ↦ ap (λ r. kept_bit r 2 (p + i)) (sym e)
]
kept_rows ps p a b two k at d e (suc (suc (suc g))) i h l = absurd (omega arith)

-- how many marks each rate keeps

pub count_half : (n : ℕ) → 2 * n ≡ marks_before Half n
unfolding marks_before step_marks kept_from keeps
count_half zero = refl
count_half (suc n) = omega (arith, count_half n)

pub count_third : (n : ℕ) → 3 * n ≡ marks_before Third n
unfolding marks_before step_marks kept_from keeps
count_third zero = refl
count_third (suc n) = omega (arith, count_third n)

pub count_two_thirds : (n : ℕ) → n + (n + 1) / 2 ≡ marks_before TwoThirds n
unfolding marks_before step_marks kept_from keeps
count_two_thirds zero = refl
count_two_thirds (suc n) = go (eqb (n % 2) 0) refl (count_two_thirds n)
  where
    go : (b : Bool) → eqb (n % 2) 0 ≡ b → n + (n + 1) / 2 ≡ marks_before TwoThirds n
        → suc n + (suc n + 1) / 2 ≡ marks_before TwoThirds n + length (cond b (mark 0o171 0 ∷ mark 0o133 0 ∷ []) (mark 0o133 0 ∷ []))
    go true e h = omega (arith, eqb-true (n % 2) 0 e)
    go false e h = let k : n % 2 ≡ 0 → ⊥ = eqb-false (n % 2) 0 e in omega arith

pub count_three_quarters : (n : ℕ) → n + (n + 2) / 3 ≡ marks_before ThreeQuarters n
unfolding marks_before step_marks kept_from keeps
count_three_quarters zero = refl
count_three_quarters (suc n) = go (eqb (n % 3) 1) (eqb (n % 3) 2) refl refl (count_three_quarters n)
  where
    go : (a b : Bool) → eqb (n % 3) 1 ≡ a → eqb (n % 3) 2 ≡ b → n + (n + 2) / 3 ≡ marks_before ThreeQuarters n
        → suc n + (suc n + 2) / 3 ≡ marks_before ThreeQuarters n + length (cond (not a) (mark 0o171 0 ∷ cond (not b) (mark 0o133 0 ∷ []) []) (cond (not b) (mark 0o133 0 ∷ []) []))
    go true true d e h = omega (arith, eqb-true (n % 3) 1 d, eqb-true (n % 3) 2 e)
    go true false d e h = omega (arith, eqb-true (n % 3) 1 d)
    go false true d e h = omega (arith, eqb-true (n % 3) 2 e)
    go false false d e h = let k : n % 3 ≡ 1 → ⊥ = eqb-false (n % 3) 1 d in let l : n % 3 ≡ 2 → ⊥ = eqb-false (n % 3) 2 e in omega arith

-- every step keeps a mark
pub steps_marks : (rate : Rate) (n : ℕ) → n ≤ marks_before rate n
steps_marks Half n = omega (arith, count_half n)
steps_marks TwoThirds n = omega (arith, count_two_thirds n)
steps_marks ThreeQuarters n = omega (arith, count_three_quarters n)
steps_marks Third n = omega (arith, count_third n)

pub marks_before_mono : (rate : Rate) (m n : ℕ) → m ≤ n → marks_before rate m ≤ marks_before rate n
marks_before_mono Half m n h = omega (arith, count_half m, count_half n)
marks_before_mono TwoThirds m n h = omega (arith, count_two_thirds m, count_two_thirds n)
marks_before_mono ThreeQuarters m n h = omega (arith, count_three_quarters m, count_three_quarters n)
marks_before_mono Third m n h = omega (arith, count_third m, count_third n)
