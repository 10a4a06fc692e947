-- One step over 64 costs in two vectors of 32 lanes.
use Rattle.std.specs.Prelude.{◌≡◌, ℕ, zero, suc, ◌+◌, ◌*◌, ◌^◌, ◌<◌, ◌≤◌, Bool, true, false, cond, List, ◌++◌, length, take, drop, nat_lt, slice_index}
use Rattle.std.proofs.Common.{sym, ap, ◌∙◌}
use Rattle.std.proofs.Math.Seq.{take-append_seam, drop-append_seam}
use Rattle.convolution.specs.Code.{bit, mark}
use Rattle.convolution.specs.Trellis.{before, far, bit_of}

-- the cost of the way into s on which the bit d leaves, over the costs ms and what the windows of this step cost
abbrev pub through : (ℕ → ℕ) → List ℕ → ℕ → Bool → ℕ
through cost ms s d = slice_index ms (before s d) + cost (2 * s + bit d)

-- whether the way by 1 costs less
abbrev pub takes : (ℕ → ℕ) → List ℕ → ℕ → Bool
takes cost ms s = nat_lt (through cost ms s true) (through cost ms s false)

-- of the two ways into each state the one that costs less, and by the bits of d which it is; `less` is taken off every cost
pub record Selected (cost : ℕ → ℕ) (less : ℕ) (ms next : List ℕ) (d : ℕ) : Type 0 where
  pub least : (s : ℕ) → s < 64 → slice_index next s + less ≡ cond (takes cost ms s) (through cost ms s true) (through cost ms s false)
  pub chosen : (s : ℕ) → s < 64 → bit_of d s ≡ bit (takes cost ms s)

-- a vector has all bits set where the mark of a generator at the window 2 s is 1, and none where it is 0
abbrev pub Masks : ℕ → List ℕ → Type 0
Masks m v = (s : ℕ) → s < 32 → slice_index v s ≡ 65535 * mark m (2 * s)

-- what the windows cost, in two vectors: `same` of the windows 2 s below 64, `other` where the oldest or the newest bit turns
pub record Turns (cost : ℕ → ℕ) (same other : List ℕ) : Type 0 where
  pub none : (s : ℕ) → s < 32 → slice_index same s ≡ cost (2 * s)
  pub oldest : (s : ℕ) → s < 32 → slice_index other s ≡ cost (2 * s + 1)
  pub newest : (s : ℕ) → s < 32 → slice_index other s ≡ cost (2 * s + 64)
  pub both : (s : ℕ) → s < 32 → slice_index same s ≡ cost (2 * s + 65)

-- k steps back by the same bits lead from the states s and p to one state
unfoldable pub Meet : ℕ → ℕ → ℕ → Type 0
Meet zero s p = s ≡ p
Meet (suc k) s p = (d : Bool) → Meet k (before s d) (before p d)

-- states that meet k steps back differ by at most k steps' costs, beside what they began with
abbrev pub Near : List ℕ → Type 0
Near ms = (k s p : ℕ) → (s < 64) × (p < 64) × Meet k s p → slice_index ms s ≤ slice_index ms p + (far + k * 384)

-- what the costs of the 64 states keep: none is far from another, and the first leaves room
pub record Close (ms : List ℕ) : Type 0 where
  pub all : length ms ≡ 64
  pub near : Near ms
  pub first : slice_index ms 0 < 2 ^ 14

-- and in two vectors
pub record Costs (low high : List ℕ) : Type 0 where
  pub long : length low ≡ 32
  pub near : Near (low ++ high)
  pub small : slice_index (low ++ high) 0 < 2 ^ 14

-- the two vectors of costs come back from all of them
module _ {low high : List ℕ} (h : Costs low high) where
  pub low_back : take 32 (low ++ high) ≡ low
  low_back = ap (λ n. take n (low ++ high)) (sym h.long) ∙ take-append_seam low high

  pub high_back : drop 32 (low ++ high) ≡ high
  high_back = ap (λ n. drop n (low ++ high)) (sym h.long) ∙ drop-append_seam low high
