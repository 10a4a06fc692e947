-- The eleven numbers of a plan, as they are written down.
use Rattle.std.specs.Prelude.{ℕ, List, slice_index}
use Rattle.limits.specs.declared.numbers.PlanNumbers.{PlanNumbers}

-- eleven numbers by their names
abbrev pub numbers_of : List ℕ → PlanNumbers
numbers_of ns = record {
  field = slice_index ns 0;
  root = slice_index ns 1;
  words = slice_index ns 2;
  length = slice_index ns 3;
  errors = slice_index ns 4;
  seed = slice_index ns 5;
  check = slice_index ns 6;
  carrier = slice_index ns 7;
  rate = slice_index ns 8;
  rows = slice_index ns 9;
  columns = slice_index ns 10;
}
