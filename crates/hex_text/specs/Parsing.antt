-- Why a text says no bytes. Assumes nothing.
use Rattle.std.specs.Prelude.{◌≡◌, ℕ, ◌%◌, ◌<◌, List, length, None, slice_index}
use Rattle.hex_text.specs.declared.HexError.{HexError}
use Rattle.hex_text.specs.declared.HexError.TheVariants.{Odd, NotADigit, Memory}
use Rattle.hex_text.specs.Digits.{digit, Leads}

-- the character at this place of a text is the first that is no digit
abbrev pub NoDigitAt : List ℕ → ℕ → Type 0
NoDigitAt text place = (place < length text) × (digit (slice_index text place) ≡ None) × Leads text place

-- what each reason says of the text: an odd number of digits, a character that is no digit, or nothing
abbrev pub Because : List ℕ → HexError → Type 0
Because text Odd = Leads text (length text) × (length text % 2 ≡ 1)
Because text (NotADigit place) = NoDigitAt text place
Because text Memory = Unit {0}
