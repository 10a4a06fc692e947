-- What the windows of a step cost: by masks, under a turn of the newest or the oldest bit, and against the rule.
use Rattle.std.proofs.Common.{◌≡◌, ℕ, zero, suc, ◌+◌, ◌-◌, ◌*◌, ◌/◌, ◌%◌, ◌^◌, ◌<◌, ◌≤◌, Bool, true, false, cond, ◌&&◌, eqb, ltb, List, [], ◌∷◌, length, get_or, refl, ap, ◌∙◌, inl, inr, add-zero, add_assoc, zero-add, add-one, arith}
use lib.Bits.{bit_and, and_zero_l, and_comm, and_mask, and_block, and_lt}
use lib.Count.{ones, ones_cat}
use Rattle.std.proofs.lemmas.Bool.{cond_both, cases_lt}
use Rattle.convolution.specs.declared.rate.Rate.{Rate}
use Rattle.convolution.specs.declared.rate.Rate.TheVariants.{Half, TwoThirds, ThreeQuarters, Third}
use Rattle.convolution.specs.declared.costs.StepCosts.{StepCosts}
use Rattle.convolution.specs.Code.{bit, mark, generators, keeps, kept_from, step_marks, marks_before}
use Rattle.convolution.specs.Cost.{cost_from, step_cost}
use Rattle.convolution.specs.Lanes.{Turns}
use Rattle.convolution.specs.Slots.{generator_at, kept_before, slot, Prices, Small, all_costs, costs_of, slot_cost, window_cost}

masked : (x : ℕ) → x < 65536 → bit_and 65535 x ≡ x
masked x h = and_comm 65535 x ∙ and_mask x 16 ∙ omega arith

pub masked_swing : (b z o : ℕ) → b < 2 → z < 256 → o < 256 → (bit_and (65535 * b) ((o + (65536 - z)) % 65536) + z) % 65536 ≡ cond (eqb b 0) z o
masked_swing zero z o h p q = rw and_zero_l (omega arith)
masked_swing (suc zero) z o h p q = rw (masked ((o + (65536 - z)) % 65536) (omega arith)) (omega arith)
masked_swing (suc (suc b)) z o h p q = absurd (omega arith)

-- a generator has its highest and its lowest bit set
odd_and_high : (rate : Rate) (g : ℕ) → (j : ℕ) × (j < 32) × (generator_at rate g ≡ (1 * 2 ^ 5 + j) * 2 ^ 1 + 1)
odd_and_high Half zero = (28, omega arith, refl)
odd_and_high Half (suc zero) = (13, omega arith, refl)
odd_and_high Half (suc (suc g)) = (31, omega arith, refl)
odd_and_high TwoThirds zero = (28, omega arith, refl)
odd_and_high TwoThirds (suc zero) = (13, omega arith, refl)
odd_and_high TwoThirds (suc (suc g)) = (31, omega arith, refl)
odd_and_high ThreeQuarters zero = (28, omega arith, refl)
odd_and_high ThreeQuarters (suc zero) = (13, omega arith, refl)
odd_and_high ThreeQuarters (suc (suc g)) = (31, omega arith, refl)
odd_and_high Third zero = (13, omega arith, refl)
odd_and_high Third (suc zero) = (18, omega arith, refl)
odd_and_high Third (suc (suc zero)) = (31, omega arith, refl)
odd_and_high Third (suc (suc (suc g))) = (31, omega arith, refl)

ones_shared : (j a x b : ℕ) → j < 32 → a < 2 → x < 32 → b < 2 → ones (bit_and ((a * 2 ^ 5 + x) * 2 ^ 1 + b) ((1 * 2 ^ 5 + j) * 2 ^ 1 + 1)) ≡ ones (bit_and a 1) + ones (bit_and x j) + ones (bit_and b 1)
ones_shared j a x b hj ha hx hb =
    ap ones (and_block 1 (a * 2 ^ 5 + x) (1 * 2 ^ 5 + j) b 1 hb (omega arith))
    ∙ ones_cat 1 (bit_and (a * 2 ^ 5 + x) (1 * 2 ^ 5 + j)) (bit_and b 1) (and_lt 1 b 1 hb (omega arith))
    ∙ ap (λ n. ones n + ones (bit_and b 1)) (and_block 5 a 1 x j hx hj)
    ∙ ap (λ n. n + ones (bit_and b 1)) (ones_cat 5 (bit_and a 1) (bit_and x j) (and_lt 5 x j hx hj))

-- a mark turns with the newest bit of the window, and with the oldest
record Turned (m s : ℕ) : Type 0 where
  oldest : mark m (2 * s + 1) ≡ 1 - mark m (2 * s)
  newest : mark m (2 * s + 64) ≡ 1 - mark m (2 * s)
  both : mark m (2 * s + 65) ≡ mark m (2 * s)

turned : (rate : Rate) (g s : ℕ) → s < 32 → Turned (generator_at rate g) s
unfolding ones
turned rate g s h =
    let (j, l, is) = odd_and_high rate g in
    let m = generator_at rate g in
    let q : ℕ = ones (bit_and s j) in
    let at = λ (a b w : ℕ) (la : a < 2) (lb : b < 2) (e : w ≡ (a * 2 ^ 5 + s) * 2 ^ 1 + b). ap (λ v. ones (bit_and w v)) is ∙ ap (λ v. ones (bit_and v ((1 * 2 ^ 5 + j) * 2 ^ 1 + 1))) e ∙ ones_shared j a s b l la h lb in
    let e0 : ones (bit_and (2 * s) m) ≡ 0 + q + 0 = at 0 0 (2 * s) (omega arith) (omega arith) (omega arith) in
    let e1 : ones (bit_and (2 * s + 1) m) ≡ 0 + q + 1 = at 0 1 (2 * s + 1) (omega arith) (omega arith) (omega arith) in
    let e2 : ones (bit_and (2 * s + 64) m) ≡ 1 + q + 0 = at 1 0 (2 * s + 64) (omega arith) (omega arith) (omega arith) in
    let e3 : ones (bit_and (2 * s + 65) m) ≡ 1 + q + 1 = at 1 1 (2 * s + 65) (omega arith) (omega arith) (omega arith) in
    record { oldest = omega arith; newest = omega arith; both = omega arith }

-- a mark turns with the newest bit of any window
pub mark_turns : (rate : Rate) (g w : ℕ) → w < 64 → mark (generator_at rate g) (w + 64) ≡ 1 - mark (generator_at rate g) w
mark_turns rate g w h = elim (cases_lt (w % 2) 1) [ inl l ↦ even l | inr l ↦ odd l ]
  where
    t : Turned (generator_at rate g) (w / 2)
    t = turned rate g (w / 2) (omega arith)

    even : w % 2 < 1 → mark (generator_at rate g) (w + 64) ≡ 1 - mark (generator_at rate g) w
    even l =
        let e : w ≡ 2 * (w / 2) = omega arith in
        omega (arith, t.newest, ap (mark (generator_at rate g)) e, ap (λ v. mark (generator_at rate g) (v + 64)) e)

    odd : 1 ≤ w % 2 → mark (generator_at rate g) (w + 64) ≡ 1 - mark (generator_at rate g) w
    odd l =
        let e : w ≡ 2 * (w / 2) + 1 = omega arith in
        let f : w + 64 ≡ 2 * (w / 2) + 65 = omega arith in
        omega (arith, t.oldest, t.both, ap (mark (generator_at rate g)) e, ap (mark (generator_at rate g)) f)

slot_turn : (c : StepCosts) (g p q : ℕ) → p < 2 → q ≡ 1 - p → slot_cost c g q + slot_cost c g p ≡ (costs_of c g).zero + (costs_of c g).one
slot_turn c g zero q h e = rw e (omega arith)
slot_turn c g (suc zero) q h e = rw e (omega arith)
slot_turn c g (suc (suc p)) q h e = absurd (omega arith)

pub slot_le : (c : StepCosts) (g m b : ℕ) → (costs_of c g).zero ≤ b → (costs_of c g).one ≤ b → slot_cost c g m ≤ b
slot_le c g m b p q = cond_both (eqb m 0) ((costs_of c g).zero) ((costs_of c g).one) (λ v. v ≤ b) (λ _. p) (λ _. q)

pub window_le : (rate : Rate) (c : StepCosts) (w : ℕ) → Small c → window_cost rate c w ≤ 384
unfolding window_cost
window_le rate c w h =
    let e = λ (g : ℕ) (l : g < 3). slot_le c g (mark (generator_at rate g) w) 128 (h.zeros g l) (h.ones g l) in
    omega (arith, e 0 (omega arith), e 1 (omega arith), e 2 (omega arith))

pub window_le_all : (rate : Rate) (c : StepCosts) (w : ℕ) → window_cost rate c w ≤ all_costs c
unfolding window_cost
window_le_all rate c w =
    let e = λ (g : ℕ). slot_le c g (mark (generator_at rate g) w) ((costs_of c g).zero + (costs_of c g).one) (omega arith) (omega arith) in
    omega (arith, e 0, e 1, e 2)

pub priced_turns : (rate : Rate) (c : StepCosts) (same other : List ℕ) → ((s : ℕ) → s < 32 → get_or same s 0 ≡ window_cost rate c (2 * s)) → ((s : ℕ) → s < 32 → get_or other s 0 ≡ all_costs c - get_or same s 0) → Turns (window_cost rate c) same other
unfolding window_cost
priced_turns rate c same other is turn =
    let m = generator_at rate in
    let two = λ (g w : ℕ). let b : mark (m g) w < 2 = omega arith in b in
    let old = λ (g s : ℕ) (h : s < 32). slot_turn c g (mark (m g) (2 * s)) (mark (m g) (2 * s + 1)) (two g (2 * s)) (turned rate g s h).oldest in
    let new = λ (g s : ℕ) (h : s < 32). slot_turn c g (mark (m g) (2 * s)) (mark (m g) (2 * s + 64)) (two g (2 * s)) (turned rate g s h).newest in
    let back = λ (g s : ℕ) (h : s < 32). ap (slot_cost c g) (turned rate g s h).both in
    record {
      none = is;
      oldest = λ s h. turn s h ∙ omega (arith, is s h, old 0 s h, old 1 s h, old 2 s h);
      newest = λ s h. turn s h ∙ omega (arith, is s h, new 0 s h, new 1 s h, new 2 s h);
      both = λ s h. is s h ∙ omega (arith, back 0 s h, back 1 s h, back 2 s h);
    }

-- three swings on top of the costs for mark 0
pub swings_sum : (z0 z1 z2 a b d p q r : ℕ) → (a + z0) % 65536 ≡ p → (b + z1) % 65536 ≡ q → (d + z2) % 65536 ≡ r → p ≤ 255 → q ≤ 255 → r ≤ 255 → (((z0 + z1 + z2 + a) % 65536 + b) % 65536 + d) % 65536 ≡ p + q + r
swings_sum z0 z1 z2 a b d p q r e f g h i j = omega arith

slot_of : (rate : Rate) (price : ℕ → ℕ → ℕ) (t : ℕ) (c : StepCosts) (g m : ℕ) → Prices rate price t c → g < 3 → m < 2 → slot_cost c g m ≡ slot rate price t g m
slot_of rate price t c g zero h l k = h.zeros g l
slot_of rate price t c g (suc zero) h l k = h.ones g l
slot_of rate price t c g (suc (suc m)) h l k = absurd (omega arith)

-- the cost of the kept marks of a list of generators, one off
kept_cost : (rate : Rate) (price : ℕ → ℕ → ℕ) (t w g i m : ℕ) (ms : List ℕ) → cost_from price i (kept_from rate t w g (m ∷ ms)) ≡ cond (keeps rate t g) (price i (mark m w)) 0 + cost_from price (i + bit (keeps rate t g)) (kept_from rate t w (suc g) ms)
unfolding kept_from cost_from
kept_cost rate price t w g i m ms = go (keeps rate t g)
  where
    go : (b : Bool) → cost_from price i (cond b (mark m w ∷ kept_from rate t w (suc g) ms) (kept_from rate t w (suc g) ms)) ≡ cond b (price i (mark m w)) 0 + cost_from price (i + bit b) (kept_from rate t w (suc g) ms)
    go true = rw add-one
    go false = rw (add-zero, zero-add)

two_slots : (rate : Rate) (price : ℕ → ℕ → ℕ) (t w i a b : ℕ) → cond (keeps rate t 0) (price (i + 0) (mark a w)) 0 + cond (keeps rate t 1) (price (i + (0 + bit (keeps rate t 0))) (mark b w)) 0 + 0 ≡ cost_from price i (kept_from rate t w 0 (a ∷ b ∷ []))
unfolding kept_from cost_from
two_slots rate price t w i a b =
    let x = i + bit (keeps rate t 0) in
    rw (add-zero i, zero-add (bit (keeps rate t 0))) (omega (arith, kept_cost rate price t w 0 i a (b ∷ []), kept_cost rate price t w 1 x b []))

three_slots : (rate : Rate) (price : ℕ → ℕ → ℕ) (t w i a b c : ℕ) → cond (keeps rate t 0) (price (i + 0) (mark a w)) 0 + cond (keeps rate t 1) (price (i + (0 + bit (keeps rate t 0))) (mark b w)) 0 + cond (keeps rate t 2) (price (i + ((0 + bit (keeps rate t 0)) + bit (keeps rate t 1))) (mark c w)) 0 ≡ cost_from price i (kept_from rate t w 0 (a ∷ b ∷ c ∷ []))
unfolding kept_from cost_from
three_slots rate price t w i a b c =
    let x = i + bit (keeps rate t 0) in
    let y = x + bit (keeps rate t 1) in
    rw (add-zero i, zero-add (bit (keeps rate t 0)), ← add_assoc i (bit (keeps rate t 0)) (bit (keeps rate t 1)))
    (omega (arith, kept_cost rate price t w 0 i a (b ∷ c ∷ []), kept_cost rate price t w 1 x b (c ∷ []), kept_cost rate price t w 2 y c []))

slots_cost : (rate : Rate) (price : ℕ → ℕ → ℕ) (t w : ℕ) → slot rate price t 0 (mark (generator_at rate 0) w) + slot rate price t 1 (mark (generator_at rate 1) w) + slot rate price t 2 (mark (generator_at rate 2) w) ≡ step_cost rate price t w
unfolding slot kept_before step_cost step_marks
slots_cost Half price t w = two_slots Half price t w (marks_before Half t) 0o171 0o133
slots_cost TwoThirds price t w = two_slots TwoThirds price t w (marks_before TwoThirds t) 0o171 0o133
slots_cost ThreeQuarters price t w = two_slots ThreeQuarters price t w (marks_before ThreeQuarters t) 0o171 0o133
slots_cost Third price t w = three_slots Third price t w (marks_before Third t) 0o133 0o145 0o177

pub window_of : (rate : Rate) (price : ℕ → ℕ → ℕ) (t : ℕ) (c : StepCosts) → Prices rate price t c → (w : ℕ) → window_cost rate c w ≡ step_cost rate price t w
unfolding window_cost
window_of rate price t c h w =
    let e = λ (g : ℕ) (l : g < 3). slot_of rate price t c g (mark (generator_at rate g) w) h l (omega arith) in
    omega (arith, e 0 (omega arith), e 1 (omega arith), e 2 (omega arith), slots_cost rate price t w)

pub step_le : (rate : Rate) (price : ℕ → ℕ → ℕ) → ((i m : ℕ) → price i m ≤ 128) → (t w : ℕ) → step_cost rate price t w ≤ 384
unfolding slot
step_le rate price h t w =
    let e = λ (g : ℕ). slot_small g (mark (generator_at rate g) w) in
    omega (arith, e 0, e 1, e 2, slots_cost rate price t w)
  where
    slot_small : (g m : ℕ) → slot rate price t g m ≤ 128
    slot_small g m =
        let i = marks_before rate t + kept_before rate t g in
        cond_both (ltb g (length (generators rate)) && keeps rate t g) (price i m) 0 (λ v. v ≤ 128) (λ _. h i m) (λ _. omega arith)
