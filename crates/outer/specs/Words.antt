-- Words as polynomials over a field of bytes, and code words.
use Rattle.std.specs.Prelude.{◌≡◌, ℕ, zero, suc, ◌+◌, ◌<◌, Bool, true, cond, ◌&&◌, List, [], ◌∷◌, ◌++◌, replicate, ◌==◌, bit_xor}
use Rattle.std.specs.Option.{unwrap_or}
use Rattle.galois.specs.Bytes.{ByteField, power}
use Rattle.outer.specs.Exhaustion.{first_list}

-- a value so far, and more coefficients behind it (Horner's rule)
unfoldable pub value_from : ByteField → ℕ → List ℕ → ℕ → ℕ
value_from f v [] x = v
value_from f v (b ∷ bs) x = value_from f (bit_xor (f.mul v x) b) bs x

-- the value at x of a word, first byte the highest power
unfoldable pub value : ByteField → List ℕ → ℕ → ℕ
value f w x = value_from f 0 w x

-- syndrome j of a word: its value at the power r + j of 02
unfoldable pub syndrome : ByteField → ℕ → List ℕ → ℕ → ℕ
syndrome f r w j = value f w (power f (r + j))

-- a code word is zero at the powers r, r + 1, .. , r + c - 1 of 02
abbrev pub CodeWord : ByteField → ℕ → ℕ → List ℕ → Type 0
CodeWord f r c w = (j : ℕ) → j < c → syndrome f r w j ≡ 0

-- the same as a test
unfoldable pub is_code_word : ByteField → ℕ → ℕ → List ℕ → Bool
is_code_word f r zero w = true
is_code_word f r (suc c) w = is_code_word f r c w && syndrome f r w c == 0

-- the number of places in which two words differ
unfoldable pub distance : List ℕ → List ℕ → ℕ
distance [] ys = 0
distance (x ∷ xs) [] = 0
distance (x ∷ xs) (y ∷ ys) = cond (x == y) 0 1 + distance xs ys

-- the code word, with c check bytes, that begins with the data: found by exhaustion (there is exactly one)
unfoldable pub encoded : ByteField → ℕ → ℕ → List ℕ → List ℕ
encoded f r c xs = xs ++ unwrap_or (first_list c (λ cs. is_code_word f r c (xs ++ cs))) (replicate c 0)
