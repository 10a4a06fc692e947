-- The encoder: what it holds after some bits, and the marks that it hands out.
use Rattle.std.specs.Prelude.{◌≡◌, ℕ, ◌+◌, ◌*◌, ◌/◌, ◌%◌, ◌^◌, ◌<◌, Bool, cond, List, [], ◌∷◌, ◌++◌, length, take, nat_lt, slice_index}
use Rattle.convolution.specs.declared.encoder.Encoder.{Encoder}
use Rattle.convolution.specs.declared.rate.Rate.{Rate}
use Rattle.convolution.specs.Code.{Word, bit, window, mark, generators, keeps, step_marks, marks_to}

-- a word as a number, the oldest bit lowest
unfoldable pub value : Word → ℕ
value [] = 0
value (b ∷ w) = bit b + 2 * value w

-- the six newest bits of a word, the newest highest, zeros before the first: the window of the next step while its own bit is 0
unfoldable pub newest : Word → ℕ
newest w = window w (length w)

-- the kept marks of a word's own steps
unfoldable pub sent : Rate → Word → List ℕ
sent rate w = marks_to rate w (length w)

-- 1 if the rate has a generator g and keeps its mark at step t, or else 0
unfoldable pub kept_bit : Rate → ℕ → ℕ → ℕ
kept_bit rate g t = cond (nat_lt g (length (generators rate))) (bit (keeps rate t g)) 0

-- number g of ms holds the marks of generator g: in bit i that of the seven bits of x from bit i on
abbrev pub MarkBits : Rate → ℕ → List ℕ → Type 0
MarkBits rate x ms = (g i : ℕ) → g < length (generators rate) → slice_index ms g / 2 ^ i % 2 ≡ mark (slice_index (generators rate) g) (x / 2 ^ i % 128)

-- number g of ks says which marks of generator g are kept in eight steps: in bit i that of step p + i
abbrev pub KeptBits : Rate → ℕ → List ℕ → Type 0
KeptBits rate p ks = (g i : ℕ) → g < 3 → i < 8 → slice_index ks g / 2 ^ i % 2 ≡ kept_bit rate g (p + i)

-- the marks in bit i of ms that are kept by bit i of ks
unfoldable pub picked : List ℕ → List ℕ → ℕ → List ℕ
picked ms ks i =
    take (slice_index ks 0 / 2 ^ i % 2) (slice_index ms 0 / 2 ^ i % 2 ∷ []) ++ take (slice_index ks 1 / 2 ^ i % 2) (slice_index ms 1 / 2 ^ i % 2 ∷ [])
    ++ take (slice_index ks 2 / 2 ^ i % 2) (slice_index ms 2 / 2 ^ i % 2 ∷ [])

-- the encoder e stands after the bits w at the rate r
pub record After (r : Rate) (w : Word) (e : Encoder) : Type 0 where
  pub same : e.rate ≡ r
  pub held : e.state ≡ newest w
  pub turned : e.phase ≡ length w % 6

-- after the bits w the encoder took the bit b: it is e now, and the step's kept marks are out
pub record Stepped (r : Rate) (w : Word) (b : Bool) (e : Encoder) (out : List ℕ) : Type 0 where
  pub after : After r (w ++ b ∷ []) e
  pub written : out ≡ step_marks r (length w) (window (w ++ b ∷ []) (length w))

-- after the bits w the encoder took the bits m: it is e now, and the kept marks of their steps are out
pub record Ran (r : Rate) (w m : Word) (e : Encoder) (out : List ℕ) : Type 0 where
  pub after : After r (w ++ m) e
  pub written : sent r (w ++ m) ≡ sent r w ++ out
