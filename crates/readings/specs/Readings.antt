-- What a reading of one mark costs for mark 0 and for mark 1.
use Rattle.std.specs.Prelude.{ℕ, zero, suc, min, Bool, true, false, ℤ, pos, negsuc, Some, None, Option}

-- p for mark 0 and q for mark 1; any other mark counts as 1
unfoldable pub by_mark : ℕ → ℕ → ℕ → ℕ
by_mark p q zero = p
by_mark p q (suc m) = q

-- a hard reading costs 1 for the other mark, and an absent one costs nothing
unfoldable pub hard_cost : Option Bool → ℕ → ℕ
hard_cost None = by_mark 0 0
hard_cost (Some false) = by_mark 0 1
hard_cost (Some true) = by_mark 1 0

-- a soft reading, from -128 to 127, costs its size for mark 1 above zero and for mark 0 below zero; a size past 128, which no soft reading has, counts as 128
unfoldable pub soft_cost : ℤ → ℕ → ℕ
soft_cost (pos n) = by_mark 0 (min n 128)
soft_cost (negsuc n) = by_mark (min (suc n) 128) 0

-- the clean hard reading of a mark is the mark
unfoldable pub clean_hard : ℕ → Option Bool
clean_hard zero = Some false
clean_hard (suc m) = Some true

-- the clean soft reading is 64 for mark 0 and -64 for mark 1
unfoldable pub clean_soft : ℕ → ℤ
clean_soft zero = pos 64
clean_soft (suc m) = negsuc 63
