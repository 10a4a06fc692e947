-- The generator polynomial and the check bytes.
use Rattle.std.specs.Prelude.{◌≡◌, ℕ, zero, suc, ◌+◌, ◌<◌, ◌≤◌, List, [], ◌∷◌, ◌++◌, take, bit_xor, slice_index}
use Rattle.galois.specs.Bytes.{ByteField, FieldRule}
use Rattle.outer.specs.declared.lanes.Row.{Row}
use Rattle.outer.specs.Lanes.{lane, root, Are}
use Rattle.outer.specs.Words.{CodeWord}

-- the bytes of ts, and zeros behind them, plus k times the bytes of gs
unfoldable pub plus_multiple : ByteField → ℕ → List ℕ → List ℕ → List ℕ
plus_multiple f k ts [] = []
plus_multiple f k [] (g ∷ gs) = f.mul k g ∷ plus_multiple f k [] gs
plus_multiple f k (t ∷ ts) (g ∷ gs) = bit_xor t (f.mul k g) ∷ plus_multiple f k ts gs

-- the generator, the product of x + root j for j = 0, 1, .. , c - 1: its coefficients behind the leading 1, highest first. A polynomial times x + a is itself, moved up one place, plus a times itself
unfoldable pub generator_of : ByteField → ℕ → ℕ → List ℕ
generator_of f r zero = []
generator_of f r (suc c) = plus_multiple f (root f r c) (generator_of f r c) (1 ∷ generator_of f r c)

-- the generator's coefficient in lane l: zero behind the last
abbrev pub coefficient : ByteField → ℕ → ℕ → ℕ → ℕ
coefficient f r c l = slice_index (generator_of f r c) l

-- in every field, for all constants whose multiples the rows are, lane l of t is lane l + 1 of s, plus its constant times the sum of the byte and the first lane of s
abbrev pub Advanced : List Row → List ℕ → ℕ → List ℕ → Type 0
Advanced rows s d t =
    (f : ByteField) (c : ℕ → ℕ) → FieldRule f → Are f c rows → (l : ℕ) → l < 32 → lane t l ≡ bit_xor (lane s (1 + l)) (f.mul (c l) (bit_xor (lane s 0) d))

-- in every field, if the rows are the multiples of a generator of degree c, the data and the first c lanes are a code word
abbrev pub Checks : List Row → List ℕ → List ℕ → Type 0
Checks rows xs s = (f : ByteField) (r c : ℕ) → FieldRule f → c ≤ 32 → Are f (coefficient f r c) rows → CodeWord f r c (xs ++ take c s)
