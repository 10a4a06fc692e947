-- A body's check byte: the remainder of the body times z^8 by z^8 + z^7 + z^4 + z^2 + z + 1, over the field of two elements.
use Rattle.std.specs.Prelude.{◌≡◌, ℕ, ◌+◌, ◌*◌, ◌/◌, ◌%◌, ◌<◌, cond, List, [], ◌∷◌, ◌++◌, replicate, bit_xor, nat_lt}
use Rattle.std.specs.List.{AllByRecursion}

-- coefficients over the field of two elements: each is 0 or 1
abbrev pub Coefficients : List ℕ → Type 0
Coefficients = AllByRecursion (λ b. b < 2)

-- the bits of a byte, highest first
unfoldable pub bits : ℕ → List ℕ
bits b = b / 128 % 2 ∷ b / 64 % 2 ∷ b / 32 % 2 ∷ b / 16 % 2 ∷ b / 8 % 2 ∷ b / 4 % 2 ∷ b / 2 % 2 ∷ b % 2 ∷ []

-- the bits of a body, byte after byte
unfoldable pub all_bits : List ℕ → List ℕ
all_bits [] = []
all_bits (b ∷ bs) = bits b ++ all_bits bs

-- the divisor z^8 + z^7 + z^4 + z^2 + z + 1
abbrev pub divisor : ℕ
divisor = 0x197

-- a polynomial of degree 8 at most, less the divisor where it goes in
unfoldable pub reduced : ℕ → ℕ
reduced x = cond (nat_lt x 256) x (bit_xor x divisor)

-- long division: the next coefficient comes down, then the divisor is taken off where it goes in
unfoldable pub divided : ℕ → List ℕ → ℕ
divided r [] = r
divided r (b ∷ bs) = divided (reduced (2 * r + b)) bs

-- the check byte of a body: the remainder of the body times z^8
unfoldable pub check_byte : List ℕ → ℕ
check_byte body = divided 0 (all_bits body ++ replicate 8 0)

-- the number whose binary digits are v's and then these coefficients, highest first
unfoldable pub number_from : ℕ → List ℕ → ℕ
number_from v [] = v
number_from v (b ∷ bs) = number_from (2 * v + b) bs

-- the number whose binary digits these coefficients are
unfoldable pub number : List ℕ → ℕ
number = number_from 0

-- the product v, and then these coefficients, highest first, each times the divisor: multiplication without carries
unfoldable pub multiple_from : ℕ → List ℕ → ℕ
multiple_from v [] = v
multiple_from v (q ∷ qs) = multiple_from (bit_xor (2 * v) (q * divisor)) qs

-- the product of a polynomial, coefficients highest first, by the divisor
unfoldable pub multiple : List ℕ → ℕ
multiple = multiple_from 0

-- a body followed by the byte c is a multiple of the divisor
pub record Divides (body : List ℕ) (c : ℕ) : Type 0 where
  pub quotient : List ℕ
  pub coefficients : Coefficients quotient
  pub product : number (all_bits (body ++ c ∷ [])) ≡ multiple quotient
