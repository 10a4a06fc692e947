-- Products of 32 lanes at once, by the multiples of 32 constants.
use Rattle.std.specs.Prelude.{◌≡◌, ℕ, ◌+◌, ◌^◌, ◌<◌, List, [], slice_index, slice_index_or}
use Rattle.outer.specs.declared.lanes.Row.{Row}
use Rattle.galois.specs.Bytes.{ByteField, FieldRule, power}

-- lane l of a vector
abbrev pub lane : List ℕ → ℕ → ℕ
lane v l = slice_index v l

-- the power r + l of 02: the root of lane l, where r is the first
abbrev pub root : ByteField → ℕ → ℕ → ℕ
root f r l = power f (r + l)

-- lane l of row i
abbrev pub at : List Row → ℕ → ℕ → ℕ
at rows i l = lane (slice_index_or rows i (record { lanes = [] })).lanes l

-- eight rows are the multiples of 32 constants: row i has in lane l the product of constant l and the byte 2 ^ i
pub record Are (f : ByteField) (c : ℕ → ℕ) (rows : List Row) : Type 0 where
  pub bytes : (l : ℕ) → l < 32 → c l < 256
  pub each : (i l : ℕ) → i < 8 → l < 32 → at rows i l ≡ f.mul (c l) (2 ^ i)

-- in every field, for all constants whose multiples the rows are, each lane of r is its constant times the byte v has there
abbrev pub Times : List Row → (ℕ → ℕ) → List ℕ → Type 0
Times rows v r = (f : ByteField) (c : ℕ → ℕ) → FieldRule f → Are f c rows → (l : ℕ) → l < 32 → lane r l ≡ f.mul (c l) (v l)
