-- The decoder's parts: the places of the errors are the zeros of a locator polynomial, and passes over the syndromes give their values.
use Rattle.std.specs.Prelude.{◌≡◌, ℕ, ◌+◌, ◌-◌, ◌*◌, ◌<◌, Bool, cond, not, List, [], ◌∷◌, filter, ◌==◌, bit_xor, slice_index, slice_set}
use Rattle.std.specs.List.{range_with_len}
use Rattle.galois.specs.Bytes.{ByteField, power}

-- the locator of a place of a word of n bytes: the power of 02 that belongs to it
unfoldable pub locator : ByteField → ℕ → ℕ → ℕ
locator f n p = power f (n - 1 - p)

-- the value at x of a polynomial, lowest coefficient first
unfoldable pub polynomial_at : ByteField → List ℕ → ℕ → ℕ
polynomial_at f [] x = 0
polynomial_at f (c ∷ cs) x = bit_xor c (f.mul x (polynomial_at f cs x))

-- the coefficients, each times its term of a list from place j on, summed
unfoldable pub applied : ByteField → List ℕ → List ℕ → ℕ → ℕ
applied f [] s j = 0
applied f (c ∷ cs) s j = bit_xor (f.mul c (slice_index s j)) (applied f cs s (j + 1))

-- the polynomial, applied at each of the first e places of the syndromes, gives 0
abbrev pub Annihilates : ByteField → ℕ → List ℕ → List ℕ → Type 0
Annihilates f e cs s = (j : ℕ) → j < e → applied f cs s j ≡ 0

-- whether a polynomial is zero at the locator of a place
unfoldable pub is_located : ByteField → ℕ → List ℕ → ℕ → Bool
is_located f n cs p = polynomial_at f cs (locator f n p) == 0

-- the places of a word of n bytes at whose locators a polynomial is zero, from the first
unfoldable pub locator_zeros : ByteField → ℕ → List ℕ → List ℕ
locator_zeros f n cs = filter (is_located f n cs) (range_with_len 0 n)

-- whether a place is another than p
unfoldable pub is_other : ℕ → ℕ → Bool
is_other p q = not (q == p)

-- the places other than p
unfoldable pub others : ℕ → List ℕ → List ℕ
others p zs = filter (is_other p) zs

-- a list as a sequence, zeros behind it
unfoldable pub sequence : List ℕ → ℕ → ℕ
sequence s j = slice_index s j

-- one pass over a sequence: each term times x, and the next term added
unfoldable pub passed : ByteField → ℕ → (ℕ → ℕ) → ℕ → ℕ
passed f x s j = bit_xor (s (j + 1)) (f.mul x (s j))

-- a pass for the locator of each place in turn
unfoldable pub passes : ByteField → ℕ → List ℕ → (ℕ → ℕ) → ℕ → ℕ
passes f n [] s = s
passes f n (q ∷ qs) s = passes f n qs (passed f (locator f n q) s)

-- the product of the differences of x and the locators of places
unfoldable pub differences : ByteField → ℕ → List ℕ → ℕ → ℕ
differences f n [] x = 1
differences f n (q ∷ qs) x = f.mul (bit_xor x (locator f n q)) (differences f n qs x)

-- the value of the error at place p, from the places zs of all errors and the syndromes s: the passes of the others leave it, times what the divisor has
unfoldable pub error_value : ByteField → ℕ → ℕ → List ℕ → List ℕ → ℕ → ℕ
error_value f r n zs s p =
    f.mul (passes f n (others p zs) (sequence s) 0)
    (f.inv (f.mul (power f ((n - 1 - p) * r)) (differences f n (others p zs) (locator f n p))))

-- a word with a value v p added at each place p of a list
unfoldable pub corrected : (ℕ → ℕ) → List ℕ → List ℕ → List ℕ
corrected v w [] = w
corrected v w (p ∷ ps) = corrected v (slice_set w p (bit_xor (slice_index w p) (v p))) ps

-- the number of the places of a list with a value that is not 0
unfoldable pub errors : (ℕ → ℕ) → List ℕ → ℕ
errors v [] = 0
errors v (p ∷ ps) = cond (v p == 0) 0 1 + errors v ps
