-- The stage of the block interleaver.
use Rattle.std.specs.Prelude.{◌≡◌, ℕ, ◌+◌, ◌*◌, ◌<◌, List, length, Ok, slice_index}
use Rattle.permutation.specs.Arrange.{arranged, restored}
use Rattle.permutation.specs.Transposed.{transposition}
use Rattle.stack.specs.Meaning.{StageMeaning}

-- so many words of n bytes, one after another, and the same column after column
abbrev pub interleaving : ℕ → ℕ → StageMeaning
interleaving words n = record {
  upper = words * n;
  lower = words * n;
  encode = λ x. arranged (transposition words n) x;
  decode = λ y. Ok (record { body = restored (transposition words n) y; count = 0 });
}

-- byte c of word w goes to place c * words + w
abbrev pub ByteMoves : ℕ → ℕ → Type 0
ByteMoves words n = (x : List ℕ) (w c : ℕ) → length x ≡ words * n → w < words → c < n → slice_index ((interleaving words n).encode x) (c * words + w) ≡ slice_index x (w * n + c)
