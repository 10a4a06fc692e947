-- What the decoder's parts come to.
use Rattle.std.specs.Prelude.{◌≡◌, ℕ, ◌+◌, ◌*◌, ◌<◌, ◌≤◌, List, length, take, Some, None, slice_index}
use Rattle.galois.specs.Bytes.{ByteField, FieldRule}
use Rattle.outer.specs.ByteLists.{Bytes}
use Rattle.outer.specs.Words.{syndrome, CodeWord, distance}
use Rattle.outer.specs.Nearest.{nearest}
use Rattle.outer.specs.Decoding.{Annihilates, locator_zeros, error_value, corrected, errors}

-- the list s begins with the 2 e syndromes of a word, and cs is a polynomial of degree e at most, not zero, that annihilates them
pub record Located (f : ByteField) (r e : ℕ) (w s cs : List ℕ) : Type 0 where
  pub syndromes_small : Bytes s
  pub syndromes_known : (j : ℕ) → j < 2 * e → slice_index s j ≡ syndrome f r w j
  pub size : length cs ≤ e + 1
  pub small : Bytes cs
  pub not_zero : ¬ ((i : ℕ) → slice_index cs i ≡ 0)
  pub annihilates : Annihilates f e cs s

-- with the values v added at the places zs, a word of k data bytes and 2 e check bytes is the code word near to it if it is a code word at all, and else none is near
pub record Verdict (f : ByteField) (r k e : ℕ) (w zs : List ℕ) (v : ℕ → ℕ) : Type 0 where
  pub few : length zs ≤ e
  pub long : length (corrected v w zs) ≡ k + 2 * e
  pub small : Bytes (corrected v w zs)
  pub counted : distance (corrected v w zs) w ≡ errors v zs
  pub found : CodeWord f r (2 * e) (corrected v w zs) → nearest f r k e w ≡ Some (take k (corrected v w zs))
  pub lost : ¬ CodeWord f r (2 * e) (corrected v w zs) → nearest f r k e w ≡ None

-- the zeros of such a polynomial are the places, and the passes give the values
abbrev pub Decodes : Type 0
Decodes = (f : ByteField) → FieldRule f → (r k e : ℕ) (w s cs : List ℕ) → k + 2 * e ≤ 255 → length w ≡ k + 2 * e → Bytes w → Located f r e w s cs
    → Verdict f r k e w (locator_zeros f (k + 2 * e) cs) (error_value f r (k + 2 * e) (locator_zeros f (k + 2 * e) cs) s)
