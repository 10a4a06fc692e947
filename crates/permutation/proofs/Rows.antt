-- A list read as rows of equal length.
use Rattle.std.proofs.Common.{◌≡◌, ℕ, ◌+◌, ◌*◌, ◌<◌, ◌≤◌, List, length, ◌∙◌, arith}
use lib.Arith.{digits_lt}
use Rattle.std.proofs.lemmas.Nat.{mul-le}
use Rattle.std.proofs.lemmas.List.Edits.{length-between}
use Rattle.std.specs.List.{between}
use Rattle.permutation.specs.Arrange.{Arrangement, size}

-- the element in a row and a column is one of the list
pub element_below : (a : Arrangement) {columns row column : ℕ} → columns ≡ a.columns → row < a.rows → column < columns → row * columns + column < size a
element_below a wide within low =
    let narrow : _ < a.columns = omega arith in
    rw wide (digits_lt within narrow)

module _ (a : Arrangement) {row columns : ℕ} (within : row < a.rows) (wide : columns ≡ a.columns) where
  -- the end of a row is in the list
  pub row_end : (row + 1) * columns ≤ size a
  row_end = rw wide (mul-le (row + 1) a.columns a.rows a.columns (omega arith) (omega arith))

  -- a row has as many elements as there are columns
  pub row-length : {T : Type 0} (xs : List T) → length xs ≡ size a → length (between (row * columns) ((row + 1) * columns) xs) ≡ columns
  row-length xs many = length-between xs (row * columns) ((row + 1) * columns) (omega (arith, row_end)) ∙ omega arith
