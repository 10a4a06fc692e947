-- The line: the marks of the convolutional code, spread by the helical rule, and read at the least cost.
use Rattle.std.specs.Prelude.{◌≡◌, ℕ, zero, suc, ◌+◌, ◌*◌, ◌<◌, false, cond, List, [], ◌∷◌, map, drop, Ok, nat_lt, slice_index, slice_index_or}
use Rattle.convolution.specs.declared.rate.Rate.{Rate}
use Rattle.convolution.specs.Code.{Word, bit, all_bits, marks}
use Rattle.convolution.specs.Cost.{least, step_cost}
use Rattle.convolution.specs.Trellis.{Tracks, Chose}
use Rattle.permutation.specs.Arrange.{arranged, restored}
use Rattle.readings.specs.declared.helical.Helical.{Helical}
use Rattle.readings.specs.Helix.{helix}
use Rattle.stack.specs.Buffers.{padded}
use Rattle.stack.specs.Meaning.{Received, CarrierMeaning}

-- what reading i of a list costs for the mark m: nothing past the list's end
unfoldable pub price_of : {R : Type 0} → (R → ℕ → ℕ) → List R → ℕ → ℕ → ℕ
price_of cost [] i m = 0
price_of cost (r ∷ rs) zero m = cost r m
price_of cost (r ∷ rs) (suc i) m = price_of cost rs i m

-- the byte of eight bits, highest first
unfoldable pub byte_of : Word → ℕ
byte_of w =
    128 * bit (slice_index_or w 0 false) + 64 * bit (slice_index_or w 1 false) + 32 * bit (slice_index_or w 2 false) + 16 * bit (slice_index_or w 3 false) + 8 * bit (slice_index_or w 4 false) + 4 * bit (slice_index_or w 5 false)
    + 2 * bit (slice_index_or w 6 false) + bit (slice_index_or w 7 false)

-- the first m bytes of bits, eight a byte
unfoldable pub bytes_of : ℕ → Word → List ℕ
bytes_of zero w = []
bytes_of (suc m) w = byte_of w ∷ bytes_of m (drop 8 w)

-- how many of the marks, the first of them against reading i, cost more than 0
unfoldable pub dear : (ℕ → ℕ → ℕ) → ℕ → List ℕ → ℕ
dear price i [] = 0
dear price i (m ∷ ms) = cond (nat_lt 0 (price i m)) 1 0 + dear price (suc i) ms

-- a block of a rows of b symbols: marks, zeros behind them, each at its place by the helical rule
unfoldable pub spread : ℕ → ℕ → List ℕ → List ℕ
spread a b ms = arranged (helix a b) (padded (a * b) ms)

-- the block of a body: its kept marks, spread
unfoldable pub block : Rate → ℕ → ℕ → List ℕ → List ℕ
block rate a b x = spread a b (marks rate (all_bits x))

-- the prices of readings of a block: reading i is that of mark i
abbrev pub prices : {R : Type 0} → (R → ℕ → ℕ) → ℕ → ℕ → List R → ℕ → ℕ → ℕ
prices cost a b rs = price_of cost (restored (helix a b) rs)

-- how many symbols a block has by a helical rule
abbrev pub block_size : Helical → ℕ
block_size rule = rule.grid.rows * rule.grid.columns

-- the prices of readings of a block by a helical rule
abbrev pub rule_prices : {R : Type 0} → (R → ℕ → ℕ) → Helical → List R → ℕ → ℕ → ℕ
rule_prices cost rule rs = prices cost rule.grid.rows rule.grid.columns rs

-- what prices give for a body of m bytes: the data bits of least cost, and how many of their marks were read at a cost
unfoldable pub chosen : Rate → ℕ → (ℕ → ℕ → ℕ) → Received
chosen rate m price = record {
  body = bytes_of m (least rate price (8 * m));
  counts = record { symbols = dear price 0 (marks rate (least rate price (8 * m))); bytes = 0 };
}

-- the bits of a body are those of least cost for m bytes, and n of their marks were read at a cost
pub record Chosen (rate : Rate) (price : ℕ → ℕ → ℕ) (m : ℕ) (x : List ℕ) (n : ℕ) : Type 0 where
  pub word : all_bits x ≡ least rate price (8 * m)
  pub symbols : n ≡ dear price 0 (marks rate (least rate price (8 * m)))

-- t steps, from step n on, lead from the least costs ms to next, and the decisions ds of them are right
pub record Went (rate : Rate) (price : ℕ → ℕ → ℕ) (n t : ℕ) (ms next ds : List ℕ) : Type 0 where
  pub tracks : Tracks (step_cost rate price) n ms → Tracks (step_cost rate price) (n + t) next
  pub chose : Tracks (step_cost rate price) n ms → (k : ℕ) → k < t → Chose (step_cost rate price) (n + k) (slice_index ds k)

-- the line at a rate, with bodies of m bytes on blocks of a rows of b symbols
abbrev pub lining : {R : Type 0} → (R → ℕ → ℕ) → (ℕ → R) → Rate → ℕ → ℕ → ℕ → CarrierMeaning R
lining cost clean rate a b m = record {
  body = m;
  air = a * b;
  height = 1;
  byte_need = m;
  step_need = 8 * m + 6;
  sent = block rate a b;
  clean = λ ms. map clean ms;
  got = λ rs. Ok (chosen rate m (prices cost a b rs));
}
