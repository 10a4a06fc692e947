-- A sample as a soft reading: its sixteenth, to the nearest.
use Rattle.std.specs.Prelude.{◌≡◌, ℕ, suc, ◌+◌, ◌*◌, ◌/◌, ◌%◌, ◌<◌, ◌≤◌, min, ℤ, pos, negsuc, ◌-ℤ◌, ◌*ℤ◌, neg_ℤ, unsigned_abs}

-- a sixteenth to the nearest, a half up, held to 127
unfoldable pub sixteenth : ℕ → ℕ
sixteenth n = min ((n + 8) / 16) 127

-- the soft reading of a sample: the sixteenth of its size, with its sign
unfoldable pub soft_of : ℤ → ℤ
soft_of (pos n) = pos (sixteenth n)
soft_of (negsuc n) = neg_ℤ (pos (sixteenth (suc n)))

-- r is the soft reading of the sample x; below a size of 2040 it is not held, and then it lies at most a half from the sixteenth of x, and at a half it is the one farther from zero
pub record Sampled (x r : ℤ) : Type 0 where
  pub value : r ≡ soft_of x
  pub held : unsigned_abs r ≤ 127
  pub near : unsigned_abs x < 2040 → unsigned_abs (pos 16 *ℤ r -ℤ x) ≤ 8
  pub farther : unsigned_abs x < 2040 → unsigned_abs x % 16 ≡ 8 → 16 * unsigned_abs r ≡ unsigned_abs x + 8
