-- The code word near to a word: there is at most one, and the search finds its data.
use Rattle.std.proofs.Common.{◌≡◌, ℕ, ◌+◌, ◌*◌, ◌≤◌, true, List, ◌++◌, length, take, drop, Some, None, sym, ap, ◌∙◌, subst, arith, length-append, length-drop}
use Rattle.std.proofs.lemmas.List.{take-append-drop, take_at, length-take-le}
use Rattle.std.proofs.lemmas.Bool.{leb-true, le-leb}
use Rattle.galois.specs.Bytes.{ByteField, FieldRule}
use Rattle.outer.specs.ByteLists.{Bytes}
use Rattle.outer.specs.Words.{CodeWord, distance, encoded}
use Rattle.outer.specs.Nearest.{is_near, nearest, Near}
use Rattle.outer.proofs.Bytewise.{bytes_append, bytes_take, bytes_drop}
use Rattle.outer.proofs.Distances.{distance_itself, distance_sym, distance_triangle}
use Rattle.outer.proofs.Exhausted.{first_list_some, first_list_only, first_list_none}
use Rattle.outer.proofs.CodeWords.{code_words_apart, encoded_is}
use Rattle.outer.proofs.Division.{encoded_exists}

-- what is encoded is a code word that begins with the data
pub record Encoded (f : ByteField) (r k c : ℕ) (xs : List ℕ) : Type 0 where
  pub long : length (encoded f r c xs) ≡ k + c
  pub small : Bytes (encoded f r c xs)
  pub code : CodeWord f r c (encoded f r c xs)
  pub front : take k (encoded f r c xs) ≡ xs

module _ (f : ByteField) (rule : FieldRule f) where
  pub encoded_says : (r k c : ℕ) (xs : List ℕ) → k + c ≤ 255 → length xs ≡ k → Bytes xs → Encoded f r k c xs
  encoded_says r k c xs room lx hx =
      let cs = encoded_exists f rule r c xs hx in
      let is : xs ++ cs.bytes ≡ encoded f r c xs = sym (encoded_is f rule r c xs cs.bytes (omega arith) cs.count hx cs.small cs.code) in
      record {
        long = ap length (sym is) ∙ omega (arith, length-append xs cs.bytes, cs.count);
        small = subst Bytes is (bytes_append xs cs.bytes hx cs.small);
        code = subst (CodeWord f r c) is cs.code;
        front = ap (take k) (sym is) ∙ take_at xs cs.bytes k lx;
      }

  -- a code word is what its data are encoded to
  pub encoded-front : (r k c : ℕ) (w : List ℕ) → k + c ≤ 255 → length w ≡ k + c → Bytes w → CodeWord f r c w → encoded f r c (take k w) ≡ w
  encoded-front r k c w room lw hw code =
      encoded_is f rule r c (take k w) (drop k w) (omega (arith, length-take-le k w (omega arith))) (omega (arith, length-drop k w)) (bytes_take k w hw) (bytes_drop k w hw)
      (subst (CodeWord f r c) (sym (take-append-drop k w)) code)
      ∙ take-append-drop k w

  module _ (r k e : ℕ) (w : List ℕ) (room : k + 2 * e ≤ 255) (lw : length w ≡ k + 2 * e) where
    pub near_only : (a b : List ℕ) → Near f r e (k + 2 * e) w a → Near f r e (k + 2 * e) w b → a ≡ b
    near_only a b ha hb =
        code_words_apart f rule r (2 * e) (k + 2 * e) a b room ha.long hb.long ha.small hb.small ha.code hb.code
        (omega (arith, distance_triangle a w b (ha.long ∙ sym lw), distance_sym w b))

    encoded_near : (xs : List ℕ) → length xs ≡ k → Bytes xs → is_near f r e w xs ≡ true → Near f r e (k + 2 * e) w (encoded f r (2 * e) xs)
    unfolding is_near
    encoded_near xs lx hx t =
        let it = encoded_says r k (2 * e) xs room lx hx in
        record { long = it.long; small = it.small; code = it.code; near = leb-true _ _ t }

    -- the search finds the data of the near code word
    pub nearest_is : (c : List ℕ) → Near f r e (k + 2 * e) w c → nearest f r k e w ≡ Some (take k c)
    unfolding nearest is_near
    nearest_is c near =
        let whole : encoded f r (2 * e) (take k c) ≡ c = encoded-front r k (2 * e) c room near.long near.small near.code in
        first_list_only k (is_near f r e w) (take k c) (length-take-le k c (omega arith)) (bytes_take k c near.small)
        (le-leb _ _ (subst (λ l. distance l w ≤ e) (sym whole) near.near))
        (λ ys ly hy t. sym (encoded_says r k (2 * e) ys room ly hy).front ∙ ap (take k) (near_only _ c (encoded_near ys ly hy t) near))

    -- where no code word is near there is no answer
    pub nearest_none : ((c : List ℕ) → Near f r e (k + 2 * e) w c → ⊥) → nearest f r k e w ≡ None
    unfolding nearest
    nearest_none none = first_list_none k (is_near f r e w) (λ ys ly hy t. none (encoded f r (2 * e) ys) (encoded_near ys ly hy t))

    -- an answer is the data of a near code word, the only one
    pub nearest_some : (xs : List ℕ) → nearest f r k e w ≡ Some xs
        → (length xs ≡ k) × Bytes xs × Near f r e (k + 2 * e) w (encoded f r (2 * e) xs) × ((c : List ℕ) → Near f r e (k + 2 * e) w c → c ≡ encoded f r (2 * e) xs)
    unfolding nearest
    nearest_some xs q =
        let it = first_list_some k (is_near f r e w) xs q in
        let near = encoded_near xs it.0 it.1 it.2 in
        (it.0, it.1, near, λ c h. near_only c (encoded f r (2 * e) xs) h near)

    -- a code word is its own near code word
    pub nearest_itself : Bytes w → CodeWord f r (2 * e) w → nearest f r k e w ≡ Some (take k w)
    nearest_itself hw code = nearest_is w (record { long = lw; small = hw; code = code; near = omega (arith, distance_itself w) })
