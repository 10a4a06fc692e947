-- The Reed-Solomon stage: so many words, one after another.
use Rattle.std.specs.Prelude.{ℕ, zero, suc, ◌+◌, ◌*◌, ◌≤◌, List, [], ◌++◌, take, drop, Some, None, Ok, Err, Option, Result}
use Rattle.galois.specs.Bytes.{ByteField}
use Rattle.outer.specs.Words.{distance, encoded}
use Rattle.outer.specs.Nearest.{nearest}
use Rattle.stack.specs.declared.fault.Fault.{Fault}
use Rattle.stack.specs.declared.fault.Fault.TheVariants.{NoCodeWord}
use Rattle.stack.specs.Meaning.{Corrected, StageMeaning}

-- the limits of a code: words of k data bytes and 2e check bytes, at most 255 in all, and the power of 02 that is its first root
pub record Limits (r words k e : ℕ) : Type 0 where
  pub root : r ≤ 254
  pub words_low : 1 ≤ words
  pub words_high : words ≤ 16
  pub data_low : 1 ≤ k
  pub errors_low : 1 ≤ e
  pub errors_high : e ≤ 16
  pub room : k + 2 * e ≤ 255

-- word w, from 0, of words of n bytes one after another
abbrev pub word : ℕ → ℕ → List ℕ → List ℕ
word n w xs = take n (drop (w * n) xs)

-- the first words of a body, each made a code word
unfoldable pub words_encoded : ByteField → ℕ → ℕ → ℕ → ℕ → List ℕ → List ℕ
words_encoded f r k e zero x = []
words_encoded f r k e (suc w) x = words_encoded f r k e w x ++ encoded f r (2 * e) (word k w x)

-- the number of bytes in which the code word of some data differs from a word
unfoldable pub differing : ByteField → ℕ → ℕ → List ℕ → List ℕ → ℕ
differing f r e y x = distance (encoded f r (2 * e) x) y

-- what word w adds to what the words before it gave: its data and the bytes that differ, or that it has no near code word
abbrev pub with_word : ℕ → (List ℕ → ℕ) → Option (List ℕ) → Corrected → Result Corrected Fault
with_word w differ None d = Err (NoCodeWord w)
with_word w differ (Some x) d = Ok (record { body = d.body ++ x; count = d.count + differ x })

-- the first refusal stands
abbrev pub then_word : (Corrected → Result Corrected Fault) → Result Corrected Fault → Result Corrected Fault
then_word next (Ok d) = next d
then_word next (Err f) = Err f

-- the data of the first words, with the number of bytes corrected, or the lowest word that has no code word within e bytes
unfoldable pub words_decoded : ByteField → ℕ → ℕ → ℕ → ℕ → List ℕ → Result Corrected Fault
words_decoded f r k e zero y = Ok (record { body = []; count = 0 })
words_decoded f r k e (suc w) y =
    then_word (with_word w (differing f r e (word (k + 2 * e) w y)) (nearest f r k e (word (k + 2 * e) w y))) (words_decoded f r k e w y)

-- the stage of so many words
abbrev pub coding : ByteField → ℕ → ℕ → ℕ → ℕ → StageMeaning
coding f r words k e = record {
  upper = words * k;
  lower = words * (k + 2 * e);
  encode = λ x. words_encoded f r k e words x;
  decode = λ y. words_decoded f r k e words y;
}
