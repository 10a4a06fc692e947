-- The block rule permutes its places.
use Rattle.std.specs.Prelude.{◌≡◌, ℕ, ◌+◌, ◌*◌, ◌/◌, ◌%◌, ◌<◌, ◌≤◌}
use Rattle.std.proofs.Common.{◌∙◌, arith, mul_comm}
use Rattle.std.proofs.lemmas.Nat.{div-add-mod', div-mul-add, mod-mul-add, mul-add-lt, div_below, mod_below}
use Rattle.permutation.specs.Arrange.{Rearranges}
use Rattle.permutation.specs.Transposed.{turned, transposition}

-- the place of an element is among the places
pub turned_below : (rows columns i : ℕ) → 1 ≤ columns → i < rows * columns → turned rows columns i < rows * columns
unfolding turned
turned_below rows columns i low k = mul-add-lt (i % columns) rows (i / columns) columns (mod_below i columns low) (div_below i columns rows low k)

-- turning a block of rows and then one of columns gives the element back
pub turned-turned : (rows columns i : ℕ) → 1 ≤ columns → i < rows * columns → turned columns rows (turned rows columns i) ≡ i
unfolding turned
turned-turned rows columns i low k =
    let row : i / columns < rows = div_below i columns rows low k in
    (λ t. mod-mul-add (i % columns) rows (i / columns) row t * columns + div-mul-add (i % columns) rows (i / columns) row t) ∙ div-add-mod' i columns

-- the place of the element in a row and a column
pub turned-at : (rows columns row column : ℕ) → column < columns → turned rows columns (row * columns + column) ≡ column * rows + row
unfolding turned
turned-at rows columns row column k = λ t. mod-mul-add row columns column k t * rows + div-mul-add row columns column k t

-- the law of the block rule
pub transposition_rearranges : (rows columns : ℕ) → 1 ≤ rows → 1 ≤ columns → Rearranges (transposition rows columns)
transposition_rearranges rows columns low high = record {
  place_below = λ i k. turned_below rows columns i high k;
  source_below = λ j k. omega (arith, turned_below columns rows j low (omega (arith, mul_comm rows columns)), mul_comm rows columns);
  source_place = λ i k. turned-turned rows columns i high k;
  place_source = λ j k. turned-turned columns rows j low (omega (arith, mul_comm rows columns));
}
