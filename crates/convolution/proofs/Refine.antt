-- The steps over vectors follow the recursion over the states.
use Rattle.std.proofs.Common.{◌≡◌, ℕ, zero, suc, ◌+◌, ◌*◌, ◌^◌, ◌<◌, ◌≤◌, Bool, true, false, cond, eqb, ltb, ◌≢◌, List, ◌∷◌, ◌++◌, length, get_or, set, replicate, sym, refl, ap, ◌∙◌, add-zero, arith, get_or-set_other, get_or-set_same, below_more}
use lib.Dec.{eqb-suc-zero}
use lib.ListN.{get_or-replicate}
use Rattle.std.proofs.lemmas.Bool.Decides.{nat_tests}
use Rattle.convolution.specs.declared.rate.Rate.{Rate}
use Rattle.convolution.specs.declared.costs.StepCosts.{StepCosts}
use Rattle.convolution.specs.Code.{bit}
use Rattle.convolution.specs.Cost.{step_cost}
use Rattle.convolution.specs.Lanes.{through, Near, Selected, Costs}
use Rattle.convolution.specs.Slots.{free, Small, Priced, window_cost, Ran}
use Rattle.convolution.specs.Trellis.{before, metric, decision, bit_of, Tracks, Chose, back}
use Rattle.convolution.proofs.Pricing.{window_of, window_le}
use Rattle.convolution.proofs.Spread.{near_all, near_next, grows}
use Rattle.convolution.proofs.Survivor.{trace}

least_shift : (k a b x y m r : ℕ) → a + k ≡ x → b + k ≡ y → r + m ≡ cond (ltb b a) b a → r + (m + k) ≡ cond (ltb y x) y x
least_shift k a b x y m r p q h = grind (arith, nat_tests)

test_shift : (k a b x y : ℕ) → a + k ≡ x → b + k ≡ y → ltb b a ≡ ltb y x
test_shift k a b x y p q = grind (arith, nat_tests)

tracks_more : (cost : ℕ → ℕ → ℕ) (n more : ℕ) (ms next : List ℕ) (d : ℕ) → Tracks cost n ms → Selected (cost n) more ms next d → Tracks cost (suc n) next
unfolding metric
tracks_more cost n more ms next d (less, t) h = (
  more + less,
  λ s b.
      let e : (k : Bool) → through (cost n) ms s k + less ≡ metric cost n (before s k) + cost n (2 * s + bit k) = λ k. omega (arith, t (before s k) (omega arith)) in
      least_shift less (through (cost n) ms s false) (through (cost n) ms s true) _ _ more (get_or next s 0) (e false) (e true) (h.least s b),
)

chose_more : (cost : ℕ → ℕ → ℕ) (n more : ℕ) (ms next : List ℕ) (d : ℕ) → Tracks cost n ms → Selected (cost n) more ms next d → Chose cost n d
unfolding decision
chose_more cost n more ms next d (less, t) h s b =
    let e : (k : Bool) → through (cost n) ms s k + less ≡ metric cost n (before s k) + cost n (2 * s + bit k) = λ k. omega (arith, t (before s k) (omega arith)) in
    h.chosen s b ∙ ap bit (test_shift less (through (cost n) ms s false) (through (cost n) ms s true) _ _ (e false) (e true))

selected_like : (cost cost' : ℕ → ℕ) (less : ℕ) (ms next : List ℕ) (d : ℕ) → ((w : ℕ) → cost w ≡ cost' w) → Selected cost less ms next d → Selected cost' less ms next d
selected_like cost cost' less ms next d same h =
    let e : (s : ℕ) (b : Bool) → cost (2 * s + bit b) ≡ cost' (2 * s + bit b) = λ s b. same (2 * s + bit b) in
    record {
      least = λ s l. rw (← e s true, ← e s false) (h.least s l);
      chosen = λ s l. rw (← e s true, ← e s false) (h.chosen s l);
    }

pub selected_lower : (cost : ℕ → ℕ) (k : ℕ) (ms next less : List ℕ) (d : ℕ) → Selected cost 0 ms next d → ((s : ℕ) → s < 64 → get_or less s 0 + k ≡ get_or next s 0) → Selected cost k ms less d
selected_lower cost k ms next less d h e = record { least = λ s l. e s l ∙ sym (add-zero (get_or next s 0)) ∙ h.least s l; chosen = h.chosen }

pub tracks_start : (cost : ℕ → ℕ → ℕ) → Tracks cost 0 (set (replicate 64 2305) 0 0)
unfolding metric
tracks_start cost = (0, each)
  where
    each : (s : ℕ) → s < 64 → get_or (set (replicate 64 2305) 0 0) s 0 + 0 ≡ metric cost 0 s
    each zero h = refl
    each (suc s) h = rw (get_or-replicate {A = ℕ} 63 s 2305 0 (omega arith), eqb-suc-zero s)

pub ran_more : (rate : Rate) (cs : List StepCosts) (t : ℕ) (ms mid next ds : List ℕ) (less d : ℕ) → t < length cs → t < length ds → Ran rate cs t ms mid ds → Selected (window_cost rate (get_or cs t free)) less mid next d → Ran rate cs (t + 1) ms next (set ds t d)
ran_more rate cs t ms mid next ds less d lc ld ran h =
    let like = λ (price : ℕ → ℕ → ℕ) (n : ℕ) (priced : Priced rate price n cs). selected_like (window_cost rate (get_or cs t free)) (step_cost rate price (n + t)) less mid next d (window_of rate price (n + t) (get_or cs t free) (priced t lc)) h in
    record {
      tracks = λ price n priced tracks.
          let e : suc (n + t) ≡ n + (t + 1) = omega arith in
          rw e at (tracks_more (step_cost rate price) (n + t) less mid next d (ran.tracks price n priced tracks) (like price n priced));
      chose = λ price n priced tracks.
          below_more _ _
          (λ k l. let ne : k ≢ t = omega arith in rw get_or-set_other (ran.chose price n priced tracks k l))
          (rw get_or-set_same (chose_more (step_cost rate price) (n + t) less mid next d (ran.tracks price n priced tracks) (like price n priced)));
    }

bit_is : (b : Bool) → eqb (bit b) 1 ≡ b
bit_is true = refl
bit_is false = refl

pub back-trace : (cost : ℕ → ℕ → ℕ) (n : ℕ) (ds : List ℕ) → ((t : ℕ) → t < n → Chose cost t (get_or ds t 0)) → (s : ℕ) → s < 64 → back ds n s ≡ trace cost n s
unfolding back trace
back-trace cost zero ds h s b = refl
back-trace cost (suc n) ds h s b =
    let k = decision cost n s in
    let e : bit_of (get_or ds n 0) s ≡ bit k = h n (omega arith) s b in
    rw (e, bit_is k) (ap (λ u. k ∷ u) (back-trace cost n ds (λ t l. h t (omega arith)) (before s k) (omega arith)))

-- the costs of a step have room for its windows
pub costs_room : {low high : List ℕ} → Costs low high → (s : ℕ) → s < 64 → get_or (low ++ high) s 0 < 2 ^ 15
costs_room {low} {high} held s h = omega (arith, near_all (low ++ high) held.near s 0 h (omega arith), held.small)

-- and so have those after it, however they are lowered
module _ (rate : Rate) (c : StepCosts) (small : Small c) {low high next : List ℕ} {d : ℕ} (held : Costs low high) (h : Selected (window_cost rate c) 0 (low ++ high) next d) where
  below : (w : ℕ) → window_cost rate c w ≤ 384
  below w = window_le rate c w small

  pub near_after : Near next × (get_or next 0 0 < 17000)
  near_after = (near_next (window_cost rate c) below 0 (low ++ high) next d held.near h, omega (arith, grows (window_cost rate c) below (low ++ high) next d h, held.small))

  pub costs_after : (l r : List ℕ) → length l ≡ 32 → ((k : ℕ) × ((s : ℕ) → s < 64 → get_or (l ++ r) s 0 + k ≡ get_or next s 0)) × (get_or (l ++ r) 0 0 < 2 ^ 14) → Costs l r
  costs_after l r long ((k, lower), less) = record {
    long = long;
    near = near_next (window_cost rate c) below k (low ++ high) (l ++ r) d held.near (selected_lower (window_cost rate c) k (low ++ high) next (l ++ r) d h lower);
    small = less;
  }
