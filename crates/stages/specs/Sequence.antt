-- The randomiser's sequence, and a body with the sequence added.
use Rattle.std.specs.Prelude.{◌≡◌, ℕ, zero, suc, ◌+◌, ◌*◌, ◌/◌, ◌%◌, Bool, false, cond, List, [], ◌∷◌, ◌++◌, length, take, ◌==◌, bit_xor, slice_index_or}
use Rattle.std.specs.Bool.{xor}

-- a bit as a number
abbrev pub bit : Bool → ℕ
bit b = cond b 1 0

-- the last n bits of a number, the highest first
unfoldable pub last_bits : ℕ → ℕ → List Bool
last_bits zero x = []
last_bits (suc n) x = last_bits n (x / 2) ++ ((x % 2 == 1) ∷ [])

-- the register of fifteen stages, stage 1 first, loaded from a seed written with stage 1 as its highest bit
unfoldable pub loaded : ℕ → List Bool
loaded seed = last_bits 15 seed

-- the sum of stages 14 and 15 modulo 2
unfoldable pub feedback : List Bool → Bool
feedback reg = xor (slice_index_or reg 13 false) (slice_index_or reg 14 false)

-- one step: the sum goes into stage 1, every other stage moves on
unfoldable pub stepped : List Bool → List Bool
stepped reg = feedback reg ∷ take 14 reg

-- the register after n steps
unfoldable pub after : ℕ → List Bool → List Bool
after zero reg = reg
after (suc n) reg = after n (stepped reg)

-- the sums of n steps, the first one first
unfoldable pub sums : ℕ → List Bool → List Bool
sums zero reg = []
sums (suc n) reg = feedback reg ∷ sums n (stepped reg)

-- a number with more bits written behind it
unfoldable pub continued : ℕ → List Bool → ℕ
continued v [] = v
continued v (b ∷ bits) = continued (2 * v + bit b) bits

-- the byte of eight bits, highest first
unfoldable pub byte_of : List Bool → ℕ
byte_of bits = continued 0 bits

-- byte j of a register's sequence: the sums of steps 8j + 1 to 8j + 8
unfoldable pub key_from : List Bool → ℕ → ℕ
key_from reg j = byte_of (sums 8 (after (8 * j) reg))

-- byte j of a seed's sequence
unfoldable pub key : ℕ → ℕ → ℕ
key seed j = key_from (loaded seed) j

-- the sequence that starts anew at every unit
unfoldable pub key_at : ℕ → ℕ → ℕ → ℕ
key_at seed unit i = key seed (i % unit)

-- each byte of a body, the first at place i, with the sequence added
unfoldable pub keyed : (ℕ → ℕ) → ℕ → List ℕ → List ℕ
keyed k i [] = []
keyed k i (x ∷ xs) = bit_xor x (k i) ∷ keyed k (suc i) xs

-- a body randomised
unfoldable pub randomised : ℕ → ℕ → List ℕ → List ℕ
randomised seed unit xs = keyed (key_at seed unit) 0 xs

-- the number whose lowest bit is stage 1
unfoldable pub held : List Bool → ℕ
held [] = 0
held (b ∷ reg) = 2 * held reg + bit b

-- the n lowest bits of a number, the lowest first
unfoldable pub lowest_bits : ℕ → ℕ → List Bool
lowest_bits zero x = []
lowest_bits (suc n) x = (x % 2 == 1) ∷ lowest_bits n (x / 2)

-- a number holds a register of fifteen stages
pub record Holds (y : ℕ) (reg : List Bool) : Type 0 where
  pub number : y ≡ held reg
  pub stages : length reg ≡ 15
