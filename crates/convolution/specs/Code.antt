-- The convolutional code: windows, marks, and which marks are kept.
use Rattle.std.specs.Prelude.{ℕ, zero, suc, ◌+◌, ◌*◌, ◌/◌, ◌%◌, Bool, true, false, cond, not, List, [], ◌∷◌, ◌++◌, length, replicate, ◌==◌, bit_and, count_ones, slice_index_or}
use Rattle.convolution.specs.declared.rate.Rate.{Rate}
use Rattle.convolution.specs.declared.rate.Rate.TheVariants.{Half, TwoThirds, ThreeQuarters, Third}

-- a sequence of bits, the oldest first
abbrev pub Word : Type 0
Word = List Bool

-- a bit as a number
abbrev pub bit : Bool → ℕ
bit b = cond b 1 0

-- so many zero bits
abbrev pub zeros : ℕ → Word
zeros n = replicate n false

-- the bits of a byte, highest first
unfoldable pub bits : ℕ → Word
bits b = (b / 128 % 2 == 1) ∷ (b / 64 % 2 == 1) ∷ (b / 32 % 2 == 1) ∷ (b / 16 % 2 == 1) ∷ (b / 8 % 2 == 1) ∷ (b / 4 % 2 == 1) ∷ (b / 2 % 2 == 1) ∷ (b % 2 == 1) ∷ []

-- the bits of a body, byte after byte
unfoldable pub all_bits : List ℕ → Word
all_bits [] = []
all_bits (b ∷ bs) = bits b ++ all_bits bs

-- what the encoder is fed for the data bits w: six zeros after them
abbrev pub fed : Word → Word
fed w = w ++ zeros 6

-- the seven bits from place t on, the newest highest
abbrev pub seven : Word → ℕ → ℕ
seven y t =
    bit (slice_index_or y t false) + 2 * bit (slice_index_or y (t + 1) false) + 4 * bit (slice_index_or y (t + 2) false) + 8 * bit (slice_index_or y (t + 3) false)
    + 16 * bit (slice_index_or y (t + 4) false) + 32 * bit (slice_index_or y (t + 5) false) + 64 * bit (slice_index_or y (t + 6) false)

-- the window of step t, from 0: the newest bit highest and the six before it, zeros before the first
unfoldable pub window : Word → ℕ → ℕ
window w t = seven (zeros 6 ++ w) t

-- a mark is 1 when the window and the generator share an odd number of ones
abbrev pub mark : ℕ → ℕ → ℕ
mark generator w = count_ones (bit_and w generator) % 2

-- the generators of a rate: 171 and 133 octal, or for one third 133, 145 and 177 octal
abbrev pub generators : Rate → List ℕ
generators Half = 0o171 ∷ 0o133 ∷ []
generators TwoThirds = 0o171 ∷ 0o133 ∷ []
generators ThreeQuarters = 0o171 ∷ 0o133 ∷ []
generators Third = 0o133 ∷ 0o145 ∷ 0o177 ∷ []

-- whether a rate keeps the mark of its generator g, from 0, at step t, from 0: two thirds keeps the first by 10 and the second by 11, three quarters the first by 101 and the second by 110, again and again
unfoldable pub keeps : Rate → ℕ → ℕ → Bool
keeps Half t g = true
keeps Third t g = true
keeps TwoThirds t zero = t % 2 == 0
keeps TwoThirds t (suc g) = true
keeps ThreeQuarters t zero = not (t % 3 == 1)
keeps ThreeQuarters t (suc g) = not (t % 3 == 2)

-- the kept marks of generators g, g + 1, .. at step t with the window w
unfoldable pub kept_from : Rate → ℕ → ℕ → ℕ → List ℕ → List ℕ
kept_from rate t w g [] = []
kept_from rate t w g (m ∷ ms) = cond (keeps rate t g) (mark m w ∷ kept_from rate t w (suc g) ms) (kept_from rate t w (suc g) ms)

-- the kept marks of step t with the window w
unfoldable pub step_marks : Rate → ℕ → ℕ → List ℕ
step_marks rate t w = kept_from rate t w 0 (generators rate)

-- the kept marks of the first n steps of a word
unfoldable pub marks_to : Rate → Word → ℕ → List ℕ
marks_to rate w zero = []
marks_to rate w (suc t) = marks_to rate w t ++ step_marks rate t (window w t)

-- the kept marks of data bits, the six zero bits after them included: the pattern runs on through the tail
unfoldable pub marks : Rate → Word → List ℕ
marks rate w = marks_to rate (fed w) (length w + 6)

-- how many marks are kept in the first n steps
unfoldable pub marks_before : Rate → ℕ → ℕ
marks_before rate zero = 0
marks_before rate (suc t) = marks_before rate t + length (step_marks rate t 0)
