-- The costs of one step, a slot for each of up to three generators, and what a run of steps does with them.
use Rattle.std.specs.Prelude.{◌≡◌, ℕ, zero, suc, ◌+◌, ◌*◌, ◌<◌, ◌≤◌, cond, ◌&&◌, List, [], length, ◌==◌, nat_lt, slice_index, slice_index_or}
use Rattle.convolution.specs.declared.rate.Rate.{Rate}
use Rattle.convolution.specs.declared.costs.MarkCosts.{MarkCosts}
use Rattle.convolution.specs.declared.costs.StepCosts.{StepCosts}
use Rattle.convolution.specs.Code.{bit, mark, generators, keeps, marks_before, all_bits}
use Rattle.convolution.specs.Cost.{step_cost, least, Least}
use Rattle.convolution.specs.Trellis.{Tracks, Chose}

-- the generator of slot g; the third of a rate that has two, which costs nothing, is 177 octal
abbrev pub generator_at : Rate → ℕ → ℕ
generator_at rate g = slice_index_or (generators rate) g 0o177

-- how many of the generators before g are kept at step t
unfoldable pub kept_before : Rate → ℕ → ℕ → ℕ
kept_before rate t zero = 0
kept_before rate t (suc g) = kept_before rate t g + bit (keeps rate t g)

-- what the reading for generator g at step t costs for the mark m: nothing if the rate has no such generator or drops its mark
unfoldable pub slot : Rate → (ℕ → ℕ → ℕ) → ℕ → ℕ → ℕ → ℕ
slot rate price t g m = cond (nat_lt g (length (generators rate)) && keeps rate t g) (price (marks_before rate t + kept_before rate t g) m) 0

-- a mark that costs nothing
abbrev pub none : MarkCosts
none = record { zero = 0; one = 0 }

-- what a mark costs
abbrev pub cost_of : MarkCosts → ℕ → ℕ
cost_of c m = cond (m == 0) c.zero c.one

-- the costs of slot g
abbrev pub costs_of : StepCosts → ℕ → MarkCosts
costs_of c g = slice_index_or c.marks g none

-- the costs c are those of step t
pub record Prices (rate : Rate) (price : ℕ → ℕ → ℕ) (t : ℕ) (c : StepCosts) : Type 0 where
  pub zeros : (g : ℕ) → g < 3 → (costs_of c g).zero ≡ slot rate price t g 0
  pub ones : (g : ℕ) → g < 3 → (costs_of c g).one ≡ slot rate price t g 1

-- a step that costs nothing
abbrev pub free : StepCosts
free = record { marks = [] }

-- the costs cs are those of the steps from n on
abbrev pub Priced : Rate → (ℕ → ℕ → ℕ) → ℕ → List StepCosts → Type 0
Priced rate price n cs = (k : ℕ) → k < length cs → Prices rate price (n + k) (slice_index_or cs k free)

-- each cost of a step is at most 128
pub record Small (c : StepCosts) : Type 0 where
  pub zeros : (g : ℕ) → g < 3 → (costs_of c g).zero ≤ 128
  pub ones : (g : ℕ) → g < 3 → (costs_of c g).one ≤ 128

-- the sum of all costs of a step
abbrev pub all_costs : StepCosts → ℕ
all_costs c = ((costs_of c 0).zero + (costs_of c 1).zero + (costs_of c 2).zero) + ((costs_of c 0).one + (costs_of c 1).one + (costs_of c 2).one)

-- what slot g costs for the mark m
abbrev pub slot_cost : StepCosts → ℕ → ℕ → ℕ
slot_cost c g m = cost_of (costs_of c g) m

-- what the window w costs by the three slots
unfoldable pub window_cost : Rate → StepCosts → ℕ → ℕ
window_cost rate c w = slot_cost c 0 (mark (generator_at rate 0) w) + slot_cost c 1 (mark (generator_at rate 1) w) + slot_cost c 2 (mark (generator_at rate 2) w)

-- the first t of the costs cs lead from the least costs ms to next, and the decisions ds of their steps are right: after any n steps, at any prices of which cs are the costs of the steps from n on
pub record Ran (rate : Rate) (cs : List StepCosts) (t : ℕ) (ms next ds : List ℕ) : Type 0 where
  pub tracks : (price : ℕ → ℕ → ℕ) (n : ℕ) → Priced rate price n cs → Tracks (step_cost rate price) n ms → Tracks (step_cost rate price) (n + t) next
  pub chose : (price : ℕ → ℕ → ℕ) (n : ℕ) → Priced rate price n cs → Tracks (step_cost rate price) n ms → (k : ℕ) → k < t → Chose (step_cost rate price) (n + k) (slice_index ds k)

-- each price is at most 128, and the decisions ds are right for all steps
pub record Decided (rate : Rate) (price : ℕ → ℕ → ℕ) (ds : List ℕ) : Type 0 where
  pub small : (i m : ℕ) → price i m ≤ 128
  pub chose : (t : ℕ) → t < length ds → Chose (step_cost rate price) t (slice_index ds t)

-- the body holds the data bits of least cost, whatever the rate and the prices for which the decisions ds are right
pub record Decoded (ds body : List ℕ) : Type 0 where
  pub found : (rate : Rate) (price : ℕ → ℕ → ℕ) → Decided rate price ds → all_bits body ≡ least rate price (8 * length body)
  pub before_all : (rate : Rate) (price : ℕ → ℕ → ℕ) → Decided rate price ds → Least rate price (8 * length body) (all_bits body)
