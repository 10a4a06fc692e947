-- The stage's two ways, word by word.
use Rattle.std.specs.Prelude.{◌≡◌, ℕ, ◌-◌, ◌*◌, List, length, Some, None, Ok, Err, Option, Result, MatchOption, MatchResult}
use Rattle.galois.specs.Bytes.{ByteField, FieldRule}
use Rattle.outer.specs.declared.lanes.Row.{Row}
use Rattle.outer.specs.Encoder.{coefficient}
use Rattle.outer.specs.Lanes.{Are, root}
use Rattle.outer.specs.Nearest.{nearest}
use Rattle.outer.specs.Words.{encoded}
use Rattle.stack.specs.declared.fault.Fault.{Fault}
use Rattle.stack.specs.Meaning.{Corrected}
use Rattle.reed_solomon.specs.Coding.{differing}

-- rows are the multiples of the generator of a code whose words bear e errors
abbrev pub GeneratorRows : ByteField → ℕ → ℕ → List Row → Type 0
GeneratorRows f r e rows = Are f (coefficient f r (2 * e)) rows

-- rows are the multiples of the powers r, r + 1, .. of 02
abbrev pub RootRows : ByteField → ℕ → List Row → Type 0
RootRows f r rows = Are f (root f r) rows

-- in every field, if the rows are the multiples of a generator with as many roots as v has bytes more than the data, v is the code word of the data
abbrev pub Filled : List Row → List ℕ → List ℕ → Type 0
Filled rows xs v =
    (f : ByteField) (r : ℕ) → FieldRule f → Are f (coefficient f r (length v - length xs)) rows → v ≡ encoded f r (length v - length xs) xs

-- the word y has the data xs of its near code word, and so many bytes that differ from it
pub record Corrects (f : ByteField) (r k e : ℕ) (y xs : List ℕ) (count : ℕ) : Type 0 where
  pub found : nearest f r k e y ≡ Some xs
  pub counted : count ≡ differing f r e y xs

-- the data of one word with the count of corrected bytes, or no near code word
abbrev pub WordRead : ByteField → ℕ → ℕ → ℕ → List ℕ → Option ℕ → List ℕ → Type 0
WordRead f r k e y answer xs = MatchOption answer (nearest f r k e y ≡ None) (λ count. Corrects f r k e y xs count)

-- what all words give: the data with the count, or the refusal
abbrev pub WordsRead : Result Corrected Fault → Result ℕ Fault → List ℕ → Type 0
WordsRead v answer xs = MatchResult answer (λ n. v ≡ Ok (record { body = xs; count = n })) (λ g. v ≡ Err g)
