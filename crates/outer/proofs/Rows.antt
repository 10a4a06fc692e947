-- Rows of lanes, written lane after lane and row after row, and lanes that move on.
use Rattle.std.proofs.Common.{◌≡◌, ℕ, ◌+◌, ◌<◌, ◌≢◌, List, ◌++◌, length, get_or, set, replicate, ap, ◌∙◌, arith, get_or-set_other, get_or-set_same, below_more}
use lib.Lanes.{pick_l}
use Rattle.std.specs.List.{range_with_len}
use Rattle.std.proofs.lemmas.List.FromFn.{get_or-range_with_len}
use Rattle.std.proofs.lemmas.List.{get_or-map}
use Rattle.outer.specs.Lanes.{lane}
use Rattle.outer.proofs.Zeros.{get_or-append-zeros}

-- after one lane more
pub lane_more : (g : ℕ → ℕ) (xs : List ℕ) (i x : ℕ) → i < length xs → x ≡ g i → ((k : ℕ) → k < i → lane xs k ≡ g k)
    → (k : ℕ) → k < i + 1 → lane (set xs i x) k ≡ g k
lane_more g xs i x h e below =
    below_more (λ k. lane (set xs i x) k ≡ g k) i
    (λ k l. let other : k ≢ i = omega arith in get_or-set_other xs i k x 0 other ∙ below k l)
    (get_or-set_same xs i x 0 h ∙ e)

-- each lane moves on by one, and a zero comes last
pub lane_moved : (s : List ℕ) (l : ℕ) → l < 32 → lane (pick_l 0 (s ++ replicate 32 0) (range_with_len 1 32)) l ≡ lane s (1 + l)
lane_moved s l h =
    get_or-map (λ k. get_or (s ++ replicate 32 0) k 0) (range_with_len 1 32) l 0 0 h
    ∙ ap (λ k. get_or (s ++ replicate 32 0) k 0) (get_or-range_with_len 1 32 l 0 h) ∙ get_or-append-zeros s 32 (1 + l)
