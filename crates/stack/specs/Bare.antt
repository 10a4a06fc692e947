-- The bare carrier.
use Rattle.std.specs.Prelude.{ℕ, Ok}
use Rattle.stack.specs.Meaning.{CarrierMeaning}

-- symbols and readings are the bytes of the body, and nothing is corrected
abbrev pub bare : ℕ → CarrierMeaning ℕ
bare n = record {
  body = n;
  air = n;
  height = 1;
  byte_need = n;
  step_need = 0;
  sent = λ x. x;
  clean = λ m. m;
  got = λ rs. Ok (record { body = rs; counts = record { symbols = 0; bytes = 0 } });
}
