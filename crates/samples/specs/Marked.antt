-- The stage that appends a fixed byte and looks for it.
use Rattle.std.specs.Prelude.{ℕ, ◌+◌, cond, [], ◌∷◌, ◌++◌, take, Ok, Err, ◌==◌, slice_index}
use Rattle.stack.specs.declared.fault.Fault.TheVariants.{Other}
use Rattle.stack.specs.Meaning.{StageMeaning}

-- A5 hex behind every body; without it the refusal is 100
abbrev pub marking : ℕ → StageMeaning
marking n = record {
  upper = n;
  lower = n + 1;
  encode = λ x. x ++ 165 ∷ [];
  decode = λ y. cond (slice_index y n == 165) (Ok (record { body = take n y; count = 0 })) (Err (Other 0 0));
}
