-- The block rule: rows are written one below the other, and read column after column.
use Rattle.std.specs.Prelude.{ℕ, ◌+◌, ◌*◌, ◌/◌, ◌%◌}
use Rattle.permutation.specs.Arrange.{Arrangement}

-- the place of element i = row * columns + column: column * rows + row
unfoldable pub turned : ℕ → ℕ → ℕ → ℕ
turned rows columns i = (i % columns) * rows + i / columns

-- the block rule as an arrangement
abbrev pub transposition : ℕ → ℕ → Arrangement
transposition rows columns = record {
  rows = rows;
  columns = columns;
  place = turned rows columns;
  source = turned columns rows;
}
