-- What the correction of a word comes to, and its encoding.
use Rattle.std.specs.Prelude.{◌≡◌, ℕ, ◌+◌, ◌-◌, ◌*◌, ◌<◌, ◌≤◌, List, [], length, take, Some, None, Option, MatchOption, bit_xor, slice_index, slice_index_or}
use Rattle.galois.specs.Bytes.{ByteField, FieldRule}
use Rattle.outer.specs.declared.lanes.Multiples.{Multiples}
use Rattle.outer.specs.declared.lanes.Row.{Row}
use Rattle.outer.specs.Cutting.{always}
use Rattle.outer.specs.Decoding.{locator}
use Rattle.outer.specs.Lanes.{lane, Are}
use Rattle.outer.specs.Encoder.{coefficient}
use Rattle.outer.specs.Words.{distance, encoded}
use Rattle.outer.specs.Nearest.{nearest}

-- each place of a list is one of a word of n bytes
abbrev pub Inside : ℕ → List ℕ → Type 0
Inside n zs = (i : ℕ) → i < length zs → slice_index zs i < n

-- in every field, for all constants whose multiples the rows are, lane l of t is lane l + 1 of s, plus its constant times lane l of s
abbrev pub OnePass : List Row → List ℕ → List ℕ → Type 0
OnePass rows s t = (f : ByteField) (c : ℕ → ℕ) → FieldRule f → Are f c rows → (l : ℕ) → l < 32 → lane t l ≡ bit_xor (lane s (1 + l)) (f.mul (c l) (lane s l))

-- in every field, if the rows are the multiples of one constant in every lane, this is the constant
abbrev pub Constant : List Row → ℕ → Type 0
Constant rows k = (f : ByteField) (c : ℕ) → FieldRule f → Are f (always c) rows → k ≡ c

-- for each place of a list the multiples of its locator in a word of n bytes, in every lane
abbrev pub LocatorMultiples : ByteField → ℕ → List ℕ → List Multiples → Type 0
LocatorMultiples f n zs ms = (i : ℕ) → i < length zs → Are f (always (locator f n (slice_index zs i))) (slice_index_or ms i (record { rows = [] })).rows

-- words of n bytes, 2 e of them check bytes, whose first root is the power r of 02
pub record Sizes (r e n : ℕ) : Type 0 where
  pub some : 1 ≤ e
  pub few : e ≤ 16
  pub fits : 2 * e < n
  pub short : n ≤ 255
  pub low : r ≤ 254

-- the word w of k data bytes and 2 e check bytes has become the code word v near to it, which differs from it in so many bytes
pub record Repaired (f : ByteField) (r k e : ℕ) (w v : List ℕ) (count : ℕ) : Type 0 where
  pub found : nearest f r k e w ≡ Some (take k v)
  pub whole : v ≡ encoded f r (2 * e) (take k v)
  pub counted : count ≡ distance v w

-- the word w has been repaired to v, or no code word differs from it in at most e bytes
abbrev pub Decoded : ByteField → ℕ → ℕ → List ℕ → List ℕ → Option ℕ → Type 0
Decoded f r e w v answer =
    MatchOption answer (nearest f r (length w - 2 * e) e w ≡ None) (λ count. Repaired f r (length w - 2 * e) e w v count)

-- in every field, if the rows are the multiples of a generator with as many roots as the word w has bytes behind its first k, v is the code word that begins with these k
abbrev pub Filled : List Row → ℕ → List ℕ → List ℕ → Type 0
Filled rows k w v =
    (f : ByteField) (r : ℕ) → FieldRule f → Are f (coefficient f r (length w - k)) rows → v ≡ encoded f r (length w - k) (take k w)
