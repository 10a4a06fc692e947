-- The stage that appends the check byte and looks at it.
use Rattle.std.specs.Prelude.{ℕ, ◌+◌, Bool, true, false, List, [], ◌∷◌, ◌++◌, take, Ok, Err, Result, ◌==◌, slice_index}
use Rattle.stack.specs.declared.fault.Fault.{Fault}
use Rattle.stack.specs.declared.fault.Fault.TheVariants.{CheckByte}
use Rattle.stack.specs.Meaning.{Corrected, StageMeaning}
use Rattle.stages.specs.Remainder.{check_byte}

-- a body whose check byte was found right or wrong
abbrev pub checked : Bool → List ℕ → Result Corrected Fault
checked true x = Ok (record { body = x; count = 0 })
checked false x = Err CheckByte

-- bodies of n bytes, and the same with the check byte behind them
abbrev pub checking : ℕ → StageMeaning
checking n = record {
  upper = n;
  lower = n + 1;
  encode = λ x. x ++ check_byte x ∷ [];
  decode = λ y. checked (slice_index y n == check_byte (take n y)) (take n y);
}
