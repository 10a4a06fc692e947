-- What a buffer holds.
use Rattle.std.specs.Prelude.{ℕ, ◌-◌, ◌<◌, List, ◌++◌, length, replicate, slice_index}

-- every element is a byte
abbrev pub Bytes : List ℕ → Type 0
Bytes xs = (k : ℕ) → slice_index xs k < 256

-- a buffer of n zeros
abbrev pub zeros : ℕ → List ℕ
zeros n = replicate n 0

-- a body at the front of a buffer of n bytes, and zeros behind it
abbrev pub padded : ℕ → List ℕ → List ℕ
padded n xs = xs ++ replicate (n - length xs) 0
