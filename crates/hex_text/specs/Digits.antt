-- Bytes as hexadecimal text. Assumes nothing.
use Rattle.std.specs.Prelude.{◌≡◌, ℕ, ◌+◌, ◌-◌, ◌*◌, ◌/◌, ◌%◌, ◌<◌, true, cond, List, [], ◌∷◌, length, is_some, Some, None, Option, nat_lt, slice_index}

-- the value of a hexadecimal digit of either case, given by its ASCII code, or none
unfoldable pub digit : ℕ → Option ℕ
digit c =
    cond (nat_lt c 48) None
    (cond (nat_lt c 58) (Some (c - 48))
    (cond (nat_lt c 65) None
    (cond (nat_lt c 71) (Some (c - 55))
    (cond (nat_lt c 97) None
    (cond (nat_lt c 103) (Some (c - 87)) None)))))

-- the lower-case digit of a value below sixteen
unfoldable pub letter : ℕ → ℕ
letter v = cond (nat_lt v 10) (48 + v) (87 + v)

-- bytes written one after another, two digits each
unfoldable pub written : List ℕ → List ℕ
written [] = []
written (b ∷ bs) = letter (b / 16) ∷ letter (b % 16) ∷ written bs

-- two digits say a byte, the high one first
abbrev pub Pair : ℕ → ℕ → ℕ → Type 0
Pair high low byte = (digit high ≡ Some (byte / 16)) × (digit low ≡ Some (byte % 16))

-- a text says the first n of these bytes, two digits each
abbrev pub Pairs : List ℕ → List ℕ → ℕ → Type 0
Pairs text bytes n = (i : ℕ) → i < n → Pair (slice_index text (2 * i)) (slice_index text (2 * i + 1)) (slice_index bytes i)

-- text that says bytes: two digits each, and no more
pub record Says (text bytes : List ℕ) : Type 0 where
  pub twice : length text ≡ 2 * length bytes
  pub digits : Pairs text bytes (length bytes)

-- the first n characters of a text are digits
abbrev pub Leads : List ℕ → ℕ → Type 0
Leads text n = (k : ℕ) → k < n → is_some (digit (slice_index text k)) ≡ true
