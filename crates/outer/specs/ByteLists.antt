-- Lists of bytes.
use Rattle.std.specs.Prelude.{ℕ, ◌<◌, List, [], ◌∷◌, bit_xor, slice_index}

-- each number of a list is a byte
abbrev pub Bytes : List ℕ → Type 0
Bytes w = (k : ℕ) → slice_index w k < 256

-- the bytewise exclusive or of two words
unfoldable pub xored : List ℕ → List ℕ → List ℕ
xored [] ys = []
xored (x ∷ xs) [] = []
xored (x ∷ xs) (y ∷ ys) = bit_xor x y ∷ xored xs ys
