-- The code of one data byte and two check bytes in field 1, whose roots are 02 and 04.
use Rattle.std.proofs.Common.{◌≡◌, ℕ, ◌+◌, ◌<◌, ◌≤◌, Bool, true, false, eqb, List, [], ◌∷◌, Ok, Err, refl, ap, ◌∙◌, subst, arith, lit<}
use Rattle.std.proofs.lemmas.Bool.Decides.{nat_tests}
use Rattle.galois.specs.Bytes.{power, raised}
use Rattle.galois.specs.Polynomials.{times_z, product_of, field_1}
use Rattle.galois.specs.Rules.{rule_1}
use Rattle.outer.specs.ByteLists.{Bytes}
use Rattle.outer.specs.Nearest.{Near}
use Rattle.outer.specs.Words.{value_from, value, syndrome, is_code_word, CodeWord, distance, encoded}
use Rattle.outer.proofs.Bytewise.{bytes_nil, bytes_cons}
use Rattle.outer.proofs.CodeWords.{code_word_from_test, code_words_apart, encoded_is}
use Rattle.outer.proofs.NearWords.{nearest_is, nearest_none}
use Rattle.stack.specs.declared.fault.Fault.TheVariants.{NoCodeWord}
use Rattle.reed_solomon.specs.Coding.{words_encoded, words_decoded, differing, with_word}

-- three bytes
three : (a b c : ℕ) → a < 256 → b < 256 → c < 256 → Bytes (a ∷ b ∷ c ∷ [])
three a b c ha hb hc = bytes_cons a (b ∷ c ∷ []) ha (bytes_cons b (c ∷ []) hb (bytes_cons c [] hc bytes_nil))

-- some multiples of the generator
code_01 : CodeWord field_1 1 2 (0x01 ∷ 0x06 ∷ 0x08 ∷ [])
unfolding is_code_word syndrome value value_from power raised product_of times_z
code_01 = code_word_from_test field_1 rule_1 1 2 (0x01 ∷ 0x06 ∷ 0x08 ∷ []) refl

code_02 : CodeWord field_1 1 2 (0x02 ∷ 0x0C ∷ 0x10 ∷ [])
unfolding is_code_word syndrome value value_from power raised product_of times_z
code_02 = code_word_from_test field_1 rule_1 1 2 (0x02 ∷ 0x0C ∷ 0x10 ∷ []) refl

code_80 : CodeWord field_1 1 2 (0x80 ∷ 0x27 ∷ 0x74 ∷ [])
unfolding is_code_word syndrome value value_from power raised product_of times_z
code_80 = code_word_from_test field_1 rule_1 1 2 (0x80 ∷ 0x27 ∷ 0x74 ∷ []) refl

code_7A : CodeWord field_1 1 2 (0x7A ∷ 0x01 ∷ 0xF7 ∷ [])
unfolding is_code_word syndrome value value_from power raised product_of times_z
code_7A = code_word_from_test field_1 rule_1 1 2 (0x7A ∷ 0x01 ∷ 0xF7 ∷ []) refl

-- a code word is what its first byte is encoded to
first_encoded : (a b c : ℕ) → a < 256 → b < 256 → c < 256 → CodeWord field_1 1 2 (a ∷ b ∷ c ∷ []) → encoded field_1 1 2 (a ∷ []) ≡ a ∷ b ∷ c ∷ []
first_encoded a b c ha hb hc code =
    encoded_is field_1 rule_1 1 2 (a ∷ []) (b ∷ c ∷ []) (omega arith) refl (bytes_cons a [] ha bytes_nil) (bytes_cons b (c ∷ []) hb (bytes_cons c [] hc bytes_nil)) code

-- so the stage encodes that byte to it
pub encodes : (a b c : ℕ) → a < 256 → b < 256 → c < 256 → CodeWord field_1 1 2 (a ∷ b ∷ c ∷ []) → words_encoded field_1 1 1 1 1 (a ∷ []) ≡ a ∷ b ∷ c ∷ []
unfolding words_encoded
encodes a b c ha hb hc code = first_encoded a b c ha hb hc code

pub encodes_01 : words_encoded field_1 1 1 1 1 (0x01 ∷ []) ≡ 0x01 ∷ 0x06 ∷ 0x08 ∷ []
encodes_01 = encodes 0x01 0x06 0x08 (lit< tt) (lit< tt) (lit< tt) code_01

pub encodes_02 : words_encoded field_1 1 1 1 1 (0x02 ∷ []) ≡ 0x02 ∷ 0x0C ∷ 0x10 ∷ []
encodes_02 = encodes 0x02 0x0C 0x10 (lit< tt) (lit< tt) (lit< tt) code_02

pub encodes_80 : words_encoded field_1 1 1 1 1 (0x80 ∷ []) ≡ 0x80 ∷ 0x27 ∷ 0x74 ∷ []
encodes_80 = encodes 0x80 0x27 0x74 (lit< tt) (lit< tt) (lit< tt) code_80

-- 01 06 08 is near to 01 FF 08
near_01 : Near field_1 1 1 3 (0x01 ∷ 0xFF ∷ 0x08 ∷ []) (0x01 ∷ 0x06 ∷ 0x08 ∷ [])
unfolding distance
near_01 = record { long = refl; small = three 0x01 0x06 0x08 (lit< tt) (lit< tt) (lit< tt); code = code_01; near = omega arith }

pub corrects_01 : words_decoded field_1 1 1 1 1 (0x01 ∷ 0xFF ∷ 0x08 ∷ []) ≡ Ok (record { body = 0x01 ∷ []; count = 1 })
unfolding words_decoded differing distance
corrects_01 =
    let w : List ℕ = 0x01 ∷ 0xFF ∷ 0x08 ∷ [] in
    ap (λ o. with_word 0 (differing field_1 1 1 w) o (record { body = []; count = 0 })) (nearest_is field_1 rule_1 1 1 1 w (omega arith) refl (0x01 ∷ 0x06 ∷ 0x08 ∷ []) near_01)
    ∙ ap (λ v. Ok (record { body = 0x01 ∷ []; count = 0 + distance v w })) (first_encoded 0x01 0x06 0x08 (lit< tt) (lit< tt) (lit< tt) code_01)

-- a code word near to 01 01 00 begins with 01 or has 01 as its second byte; two code words are so 01 06 08 and 7A 01 F7, and both differ from it in two bytes
not_near : (a b c : ℕ) → Near field_1 1 1 3 (0x01 ∷ 0x01 ∷ 0x00 ∷ []) (a ∷ b ∷ c ∷ []) → ⊥
unfolding distance
not_near a b c near = go (eqb a 1) refl (eqb b 1) refl
  where
    go : (s : Bool) → eqb a 1 ≡ s → (t : Bool) → eqb b 1 ≡ t → ⊥
    go true p t q =
        let same : a ∷ b ∷ c ∷ [] ≡ 0x01 ∷ 0x06 ∷ 0x08 ∷ []
        = code_words_apart field_1 rule_1 1 2 3 (a ∷ b ∷ c ∷ []) (0x01 ∷ 0x06 ∷ 0x08 ∷ []) (omega arith) refl refl near.small (three 0x01 0x06 0x08 (lit< tt) (lit< tt) (lit< tt)) near.code code_01 (grind (arith, nat_tests)) in
        let far : distance (0x01 ∷ 0x06 ∷ 0x08 ∷ []) (0x01 ∷ 0x01 ∷ 0x00 ∷ []) ≤ 1 = subst (λ z. distance z (0x01 ∷ 0x01 ∷ 0x00 ∷ []) ≤ 1) same near.near in
        omega arith
    go false p true q =
        let same : a ∷ b ∷ c ∷ [] ≡ 0x7A ∷ 0x01 ∷ 0xF7 ∷ []
        = code_words_apart field_1 rule_1 1 2 3 (a ∷ b ∷ c ∷ []) (0x7A ∷ 0x01 ∷ 0xF7 ∷ []) (omega arith) refl refl near.small (three 0x7A 0x01 0xF7 (lit< tt) (lit< tt) (lit< tt)) near.code code_7A (grind (arith, nat_tests)) in
        let far : distance (0x7A ∷ 0x01 ∷ 0xF7 ∷ []) (0x01 ∷ 0x01 ∷ 0x00 ∷ []) ≤ 1 = subst (λ z. distance z (0x01 ∷ 0x01 ∷ 0x00 ∷ []) ≤ 1) same near.near in
        omega arith
    go false p false q = grind (arith, nat_tests, near.near)

none_near : (z : List ℕ) → Near field_1 1 1 3 (0x01 ∷ 0x01 ∷ 0x00 ∷ []) z → ⊥
none_near [] near = omega (arith, near.long)
none_near (a ∷ []) near = omega (arith, near.long)
none_near (a ∷ b ∷ []) near = omega (arith, near.long)
none_near (a ∷ b ∷ c ∷ []) near = not_near a b c near
none_near (a ∷ b ∷ c ∷ d ∷ z) near = omega (arith, near.long)

pub refuses_01 : words_decoded field_1 1 1 1 1 (0x01 ∷ 0x01 ∷ 0x00 ∷ []) ≡ Err (NoCodeWord 0)
unfolding words_decoded
refuses_01 =
    let w : List ℕ = 0x01 ∷ 0x01 ∷ 0x00 ∷ [] in
    ap (λ o. with_word 0 (differing field_1 1 1 w) o (record { body = []; count = 0 })) (nearest_none field_1 rule_1 1 1 1 w (omega arith) refl none_near)
