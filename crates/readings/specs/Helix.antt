-- The helical rule: column c of the rows is turned down by 3c rows.
use Rattle.std.specs.Prelude.{ℕ, ◌+◌, ◌-◌, ◌*◌, ◌/◌, ◌%◌}
use Rattle.permutation.specs.Arrange.{Arrangement}

-- the place of element i = l * b + c, in row l and column c of a rows of b elements: b * ((3c + l) mod a) + c
unfoldable pub wound : ℕ → ℕ → ℕ → ℕ
wound a b i = b * ((3 * (i % b) + i / b) % a) + i % b

-- the element at place j = b * r + c: it stands in column c and in the row 3c above r, counted round
unfoldable pub unwound : ℕ → ℕ → ℕ → ℕ
unwound a b j = (j / b + 3 * (j % b) * (a - 1)) % a * b + j % b

-- the helical rule as an arrangement
abbrev pub helix : ℕ → ℕ → Arrangement
helix a b = record {
  rows = a;
  columns = b;
  place = wound a b;
  source = unwound a b;
}
