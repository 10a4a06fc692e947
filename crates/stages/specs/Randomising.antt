-- The stage that adds the randomiser's sequence.
use Rattle.std.specs.Prelude.{◌≡◌, ℕ, ◌%◌, ◌<◌, ◌≤◌, Ok}
use Rattle.stack.specs.Meaning.{StageMeaning}
use Rattle.stages.specs.Sequence.{randomised}

-- the numbers of a randomiser: a seed of fifteen stages that are not all zero, and bodies of whole units
pub record Randomises (seed unit n : ℕ) : Type 0 where
  pub seed_low : 1 ≤ seed
  pub seed_high : seed < 32768
  pub length_low : 1 ≤ n
  pub length_high : n ≤ 98304
  pub unit_low : 1 ≤ unit
  pub whole : n % unit ≡ 0

-- the same sequence is added both ways, which takes it off again
abbrev pub randomising : ℕ → ℕ → ℕ → StageMeaning
randomising seed unit n = record {
  upper = n;
  lower = n;
  encode = λ x. randomised seed unit x;
  decode = λ y. Ok (record { body = randomised seed unit y; count = 0 });
}
