-- The data of the code word that is near to a word.
use Rattle.std.specs.Prelude.{◌≡◌, ℕ, ◌*◌, ◌≤◌, Bool, List, length, Option, nat_le}
use Rattle.galois.specs.Bytes.{ByteField}
use Rattle.outer.specs.ByteLists.{Bytes}
use Rattle.outer.specs.Exhaustion.{first_list}
use Rattle.outer.specs.Words.{CodeWord, distance, encoded}

-- the code word of these data differs from the word in at most e bytes
unfoldable pub is_near : ByteField → ℕ → ℕ → List ℕ → List ℕ → Bool
is_near f r e w xs = nat_le (distance (encoded f r (2 * e) xs) w) e

-- the k data bytes whose code word differs from the word in at most e bytes, by exhaustion over all of them, or none
unfoldable pub nearest : ByteField → ℕ → ℕ → ℕ → List ℕ → Option (List ℕ)
nearest f r k e w = first_list k (is_near f r e w)

-- c is a code word of n bytes, 2 e of them check bytes, that differs from the word w in at most e bytes
pub record Near (f : ByteField) (r e n : ℕ) (w c : List ℕ) : Type 0 where
  pub long : length c ≡ n
  pub small : Bytes c
  pub code : CodeWord f r (2 * e) c
  pub near : distance c w ≤ e
