-- The syndromes of a word in lanes.
use Rattle.std.specs.Prelude.{◌≡◌, ℕ, ◌<◌, List}
use Rattle.galois.specs.Bytes.{ByteField, FieldRule}
use Rattle.outer.specs.declared.lanes.Row.{Row}
use Rattle.outer.specs.Lanes.{lane, root, Are}
use Rattle.outer.specs.Words.{syndrome}

-- in every field, from whatever power r of 02 on the rows are the roots' multiples, lane l of s is syndrome l of the word
abbrev pub Syndromes : List Row → List ℕ → List ℕ → Type 0
Syndromes rows w s = (f : ByteField) (r : ℕ) → FieldRule f → Are f (root f r) rows → (l : ℕ) → l < 32 → lane s l ≡ syndrome f r w l
