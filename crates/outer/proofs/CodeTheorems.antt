-- What the contracts of encoding and correcting come to.
use Rattle.std.proofs.Common.{◌≡◌, ℕ, ◌+◌, ◌-◌, ◌*◌, ◌≤◌, List, length, take, Some, None, Option, sym, refl, ap, ◌∙◌, subst, arith}
use Rattle.std.proofs.lemmas.List.{length-take-le}
use Rattle.std.proofs.lemmas.Option.{same_Some}
use Rattle.galois.specs.Bytes.{ByteField, FieldRule}
use Rattle.outer.specs.declared.lanes.Row.{Row}
use Rattle.outer.specs.ByteLists.{Bytes}
use Rattle.outer.specs.Correction.{Sizes, Decoded, Filled}
use Rattle.outer.specs.Encoder.{coefficient}
use Rattle.outer.specs.Lanes.{Are}
use Rattle.outer.specs.Nearest.{nearest, Near}
use Rattle.outer.specs.Words.{CodeWord, distance, encoded}
use Rattle.outer.proofs.Bytewise.{bytes_take}
use Rattle.outer.proofs.NearWords.{Encoded, encoded_says, encoded-front, nearest_is, nearest_some}

module _ (f : ByteField) (rule : FieldRule f) where
  -- the encoded word is the only code word that begins with the data
  pub encoded_only : (r k c : ℕ) (xs w : List ℕ) → k + c ≤ 255 → length w ≡ k + c → Bytes w → CodeWord f r c w → take k w ≡ xs → w ≡ encoded f r c xs
  encoded_only r k c xs w room lw hw code begins = sym (encoded-front f rule r k c w room lw hw code) ∙ ap (encoded f r c) begins

  -- a filled word is a code word that begins with the data
  pub filled_encodes : (rows : List Row) (r k : ℕ) (w v : List ℕ) → k ≤ length w → length w ≤ 255 → Bytes w → Are f (coefficient f r (length w - k)) rows → Filled rows k w v
      → (length v ≡ length w) × CodeWord f r (length w - k) v × (take k v ≡ take k w)
  filled_encodes rows r k w v h room hw are filled =
      let c = length w - k in
      let is = filled f r rule are in
      let it : Encoded f r k c (take k w) = encoded_says f rule r k c (take k w) (omega arith) (length-take-le k w h) (bytes_take k w hw) in
      (ap length is ∙ it.long ∙ omega arith, subst (CodeWord f r c) (sym is) it.code, ap (take k) is ∙ it.front)

  module _ (r e : ℕ) (w : List ℕ) (sizes : Sizes r e (length w)) where
    -- no answer says that no code word is near
    none_near : nearest f r (length w - 2 * e) e w ≡ None → (c : List ℕ) → Near f r e (length w) w c → ⊥
    none_near none c near =
        let k = length w - 2 * e in
        let size : length w ≡ k + 2 * e = omega arith in
        let some = nearest_is f rule r k e w (omega arith) size c (subst (λ n. Near f r e n w c) size near) in
        let other : ◌≡◌ {A = Option (List ℕ)} None (Some (take k c)) = sym none ∙ some in
        let clash : ◌≡◌ {A = ℕ} 0 1 = cc in
        omega arith

    -- a word near to a code word becomes that code word, and the answer says in how many bytes it differed
    pub decoded_near : (v c : List ℕ) (answer : Option ℕ) → Decoded f r e w v answer → Near f r e (length w) w c → (answer ≡ Some (distance c w)) × (v ≡ c)
    decoded_near v c None none near = absurd (none_near none c near)
    decoded_near v c (Some n) it near =
        let k = length w - 2 * e in
        let size : length w ≡ k + 2 * e = omega arith in
        let here = subst (λ m. Near f r e m w c) size near in
        let front : take k v ≡ take k c = same_Some _ _ (sym it.found ∙ nearest_is f rule r k e w (omega arith) size c here) in
        let same : v ≡ c = it.whole ∙ ap (encoded f r (2 * e)) front ∙ encoded-front f rule r k (2 * e) c (omega arith) here.long here.small here.code in
        (ap Some (it.counted ∙ ap (λ u. distance u w) same), same)

    -- a word near to no code word has no answer
    pub decoded-far : (v : List ℕ) (answer : Option ℕ) → Decoded f r e w v answer → ((c : List ℕ) → Near f r e (length w) w c → ⊥) → answer ≡ None
    decoded-far v None it far = refl
    decoded-far v (Some n) it far =
        let k = length w - 2 * e in
        let size : length w ≡ k + 2 * e = omega arith in
        let some = nearest_some f rule r k e w (omega arith) size (take k v) it.found in
        absurd (far (encoded f r (2 * e) (take k v)) (subst (λ m. Near f r e m w (encoded f r (2 * e) (take k v))) (sym size) some.2))

    -- and an answer leaves a code word near to the word
    pub decoded_some : (v : List ℕ) (n : ℕ) → Decoded f r e w v (Some n) → Near f r e (length w) w v
    decoded_some v n it =
        let k = length w - 2 * e in
        let size : length w ≡ k + 2 * e = omega arith in
        let some = nearest_some f rule r k e w (omega arith) size (take k v) it.found in
        subst (λ u. Near f r e (length w) w u) (sym it.whole) (subst (λ m. Near f r e m w (encoded f r (2 * e) (take k v))) (sym size) some.2)
