-- The carrier whose readings may be absent.
use Rattle.std.specs.Prelude.{ℕ, Bool, true, cond, ◌&&◌, List, [], ◌∷◌, map, is_some, Some, Ok, Err, Option}
use Rattle.std.specs.Option.{unwrap_or}
use Rattle.stack.specs.declared.fault.Fault.TheVariants.{Other}
use Rattle.stack.specs.Meaning.{CarrierMeaning}

-- whether every reading is there
unfoldable pub present : List (Option ℕ) → Bool
present [] = true
present (r ∷ rs) = is_some r && present rs

-- the bytes that were read, 0 for an absent one
unfoldable pub values : List (Option ℕ) → List ℕ
values [] = []
values (r ∷ rs) = unwrap_or r 0 ∷ values rs

-- symbols are the bytes of the body; with a byte absent the refusal is 101
abbrev pub erasing : ℕ → CarrierMeaning (Option ℕ)
erasing n = record {
  body = n;
  air = n;
  height = 1;
  byte_need = n;
  step_need = 0;
  sent = λ x. x;
  clean = λ m. map Some m;
  got = λ rs. cond (present rs) (Ok (record { body = values rs; counts = record { symbols = 0; bytes = 0 } })) (Err (record { depth = 0; fault = Other 1 0 }));
}
