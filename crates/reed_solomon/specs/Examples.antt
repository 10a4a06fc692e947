-- Worked examples: field 1, one word of one data byte and two check bytes, whose roots are 02 and 04.
use Rattle.std.specs.Prelude.{◌≡◌, [], ◌∷◌, Ok, Err}
use Rattle.galois.specs.Polynomials.{field_1}
use Rattle.stack.specs.declared.fault.Fault.TheVariants.{NoCodeWord}
use Rattle.reed_solomon.specs.Coding.{coding}

pub record Examples : Type 0 where
  -- the code words of 01, 02 and 80 hex
  pub code_of_01 : (coding field_1 1 1 1 1).encode (0x01 ∷ []) ≡ 0x01 ∷ 0x06 ∷ 0x08 ∷ []
  pub code_of_02 : (coding field_1 1 1 1 1).encode (0x02 ∷ []) ≡ 0x02 ∷ 0x0C ∷ 0x10 ∷ []
  pub code_of_80 : (coding field_1 1 1 1 1).encode (0x80 ∷ []) ≡ 0x80 ∷ 0x27 ∷ 0x74 ∷ []
  -- one wrong byte is corrected
  pub corrected : (coding field_1 1 1 1 1).decode (0x01 ∷ 0xFF ∷ 0x08 ∷ []) ≡ Ok (record { body = 0x01 ∷ []; count = 1 })
  -- no code word differs from this word in one byte only
  pub refused : (coding field_1 1 1 1 1).decode (0x01 ∷ 0x01 ∷ 0x00 ∷ []) ≡ Err (NoCodeWord 0)
