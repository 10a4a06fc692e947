-- The bytes as polynomials over the field of two elements, the lowest coefficient in the lowest bit, modulo a polynomial of degree 8.
use Rattle.std.specs.Prelude.{ℕ, zero, suc, ◌*◌, ◌/◌, ◌%◌, bit_xor}
use Rattle.galois.specs.Bytes.{ByteField, raised}

-- times z, modulo the polynomial 256 + p
unfoldable pub times_z : ℕ → ℕ → ℕ
times_z p a = bit_xor (a * 2 % 256) (p * (a / 128 % 2))

-- the product of a by the lowest n bits of b, modulo 256 + p: the bits of b, lowest first, each with its multiple of a
unfoldable pub product_of : ℕ → ℕ → ℕ → ℕ → ℕ
product_of zero p a b = 0
product_of (suc n) p a b = bit_xor (a * (b % 2)) (product_of n p (times_z p a) (b / 2))

-- the field of the polynomial 256 + p: the inverse is the 254th power
abbrev pub by_polynomial : ℕ → ByteField
by_polynomial p = record { mul = product_of 8 p; inv = λ a. raised (product_of 8 p) a 254 }

-- field 1: the bytes modulo z^8 + z^4 + z^3 + z^2 + 1
abbrev pub field_1 : ByteField
field_1 = by_polynomial 0x1D

-- field 2: the bytes modulo z^8 + z^7 + z^2 + z + 1
abbrev pub field_2 : ByteField
field_2 = by_polynomial 0x87
