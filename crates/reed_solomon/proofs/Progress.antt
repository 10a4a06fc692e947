-- What one word adds, on either way.
use Rattle.std.proofs.Common.{◌≡◌, ℕ, zero, suc, ◌+◌, ◌-◌, ◌*◌, ◌<◌, ◌≤◌, List, ◌++◌, length, take, drop, Some, None, Ok, Err, Option, sym, ap, ◌∙◌, subst, ap₂, inl, inr, le_of_eq, le_refl, mul-le-mul, add-mul, zero-add, add-one, arith, length-append, length-drop}
use borrow.Rule.Slice.PartMut.{mid_len, mid_of, put_mid}
use Rattle.std.specs.Option.{ok_or}
use Rattle.std.proofs.lemmas.Bool.{cases_lt}
use Rattle.std.proofs.lemmas.List.{take_at, take_all, drop_at, drop-drop}
use Rattle.std.proofs.lemmas.Slice.{take-put_mid}
use Rattle.galois.specs.Bytes.{ByteField, FieldRule}
use Rattle.outer.specs.declared.lanes.Row.{Row}
use Rattle.outer.specs.Correction.{Repaired}
use Rattle.outer.specs.Encoder.{coefficient}
use Rattle.outer.specs.Lanes.{Are}
use Rattle.outer.specs.Nearest.{nearest}
use Rattle.outer.specs.Words.{distance, encoded}
use Rattle.stack.specs.declared.fault.Fault.{Fault}
use Rattle.stack.specs.declared.fault.Fault.TheVariants.{NoCodeWord}
use Rattle.stack.specs.Meaning.{Corrected}
use Rattle.reed_solomon.specs.Coding.{Limits, word, words_encoded, words_decoded, differing, with_word, then_word}
use Rattle.reed_solomon.specs.WordByWord.{GeneratorRows, Filled, Corrects}
use Rattle.reed_solomon.specs.Coded.{Answers, word_end, words_answer, small_product}

-- a word within a buffer of so many words
pub within : (w words n : ℕ) → w < words → (w + 1) * n ≤ words * n
within w words n h = omega (arith, add-mul w 1 n, word_end w words n h)

-- it is as long as a word
pub long_part : (n w : ℕ) (xs : List ℕ) → (w + 1) * n ≤ length xs → length (mid_of (w * n) ((w + 1) * n - w * n) xs) ≡ n
long_part n w xs room = omega (arith, add-mul w 1 n, mid_len (w * n) ((w + 1) * n) xs room)

-- a word written behind those before it
pub take-written : (n w : ℕ) (xs v : List ℕ) → (w + 1) * n ≤ length xs → length v ≡ n → take ((w + 1) * n) (put_mid (w * n) ((w + 1) * n - w * n) xs v) ≡ take (w * n) xs ++ v
take-written n w xs v room long = take-put_mid (w * n) ((w + 1) * n - w * n) xs v ((w + 1) * n) (omega (arith, add-mul w 1 n)) (omega (arith, add-mul w 1 n))

-- a chunk of the words from w on, and what is left behind it
pub record NextWord (n w words : ℕ) (xs v behind : List ℕ) : Type 0 where
  pub below : w < words
  pub is : v ≡ word n w xs
  pub left : behind ≡ drop ((w + 1) * n) xs

pub next_word : (n w words : ℕ) (xs v behind : List ℕ) {rest : List ℕ} → 1 ≤ n → length xs ≡ words * n → rest ≡ drop (w * n) xs → rest ≡ v ++ behind → length v ≡ n → NextWord n w words xs v behind
next_word n w words xs v behind low all before cut long = record {
  below = elim (cases_lt w words) [
    | inl b ↦ b
    | inr b ↦ absurd (omega (arith, mul-le-mul b (le_refl n), ap length (sym cut ∙ before), length-append v behind, length-drop (w * n) xs))
  ];
  is = sym (take_at v behind n long) ∙ ap (take n) (sym cut ∙ before);
  left = sym (drop_at v behind n long) ∙ ap (drop n) (sym cut ∙ before) ∙ drop-drop n (w * n) xs ∙ ap (λ m. drop m xs) (omega (arith, add-mul w 1 n));
}

-- where no chunk is left, all words are read
pub all_read : (n w words : ℕ) (xs : List ℕ) {rest : List ℕ} → length xs ≡ words * n → rest ≡ drop (w * n) xs → w ≤ words → length rest < n → w ≡ words
all_read n w words xs all before most less = elim (cases_lt w words) [
  | inl b ↦ absurd (omega (arith, word_end w words n b, ap length before, length-drop (w * n) xs))
  | inr b ↦ omega arith
]

-- what stands in place of a value that is missing
pub refusal : {A E : Type 0} {o : Option A} {x y : E} → o ≡ None → Err x ≡ ok_or o y → x ≡ y
refusal {o = None} none is = cc
refusal {o = Some a} none is = cc

module _ (f : ByteField) (r k e : ℕ) where
  -- a word that was filled is the code word
  pub word_filled : {rows : List Row} (xs v : List ℕ) → FieldRule f → GeneratorRows f r e rows → length xs ≡ k → length v ≡ k + 2 * e → Filled rows xs v → v ≡ encoded f r (2 * e) xs
  word_filled {rows} xs v rule are lx lv filled =
      let checks : length v - length xs ≡ 2 * e = omega arith in
      filled f r rule (subst (λ c. Are f (coefficient f r c) rows) (sym checks) are) ∙ ap (λ c. encoded f r c xs) checks

  -- with one code word more written
  pub encoded_more : (w : ℕ) (x to v : List ℕ) → (w + 1) * (k + 2 * e) ≤ length to → length v ≡ k + 2 * e → v ≡ encoded f r (2 * e) (word k w x) → take (w * (k + 2 * e)) to ≡ words_encoded f r k e w x
      → take ((w + 1) * (k + 2 * e)) (put_mid (w * (k + 2 * e)) ((w + 1) * (k + 2 * e) - w * (k + 2 * e)) to v) ≡ words_encoded f r k e (w + 1) x
  unfolding words_encoded
  encoded_more w x to v room long is before =
      take-written (k + 2 * e) w to v room long ∙ ap₂ ◌++◌ before is ∙ ap (λ i. words_encoded f r k e i x) (sym (add-one w))

  -- all words are code words
  pub encoded_all : (words w : ℕ) (x to : List ℕ) → w ≡ words → length to ≡ words * (k + 2 * e) → take (w * (k + 2 * e)) to ≡ words_encoded f r k e w x → to ≡ words_encoded f r k e words x
  encoded_all words w x to all long q =
      sym (take_all (words * (k + 2 * e)) to (le_of_eq long)) ∙ subst (λ v. take (v * (k + 2 * e)) to ≡ words_encoded f r k e v x) all q

  -- the data of a word that was repaired
  pub repaired_data : {w v xs : List ℕ} {count : ℕ} → length w ≡ k + 2 * e → xs ≡ take k v → Repaired f r (length w - 2 * e) e w v count → Corrects f r k e w xs count
  unfolding differing
  repaired_data {w} {v} {xs} long is it =
      let size : length w - 2 * e ≡ k = omega arith in
      let same : take (length w - 2 * e) v ≡ xs = ap (λ m. take m v) size ∙ sym is in
      record {
        found = ap (λ m. nearest f r m e w) (sym size) ∙ it.found ∙ ap Some same;
        counted = it.counted ∙ ap (λ l. distance l w) (it.whole ∙ ap (encoded f r (2 * e)) same);
      }

  -- with the data of one word more
  pub decoded_more : (w : ℕ) (y to bytes : List ℕ) (count more : ℕ) → (w + 1) * k ≤ length to → length bytes ≡ k → words_decoded f r k e w y ≡ Ok (record { body = take (w * k) to; count = count })
      → Corrects f r k e (word (k + 2 * e) w y) bytes more
      → words_decoded f r k e (w + 1) y ≡ Ok (record { body = take ((w + 1) * k) (put_mid (w * k) ((w + 1) * k - w * k) to bytes); count = count + more })
  unfolding words_decoded
  decoded_more w y to bytes count more room long before it =
      let v = word (k + 2 * e) w y in
      ap (λ i. words_decoded f r k e i y) (add-one w)
      ∙ ap (then_word (with_word w (differing f r e v) (nearest f r k e v))) before
      ∙ ap (λ o. with_word w (differing f r e v) o (record { body = take (w * k) to; count = count })) it.found
      ∙ ap₂ (λ b m. Ok (record { body = b; count = m })) (sym (take-written k w to bytes room long)) (ap (λ m. count + m) (sym it.counted))

  -- with the data of all words
  pub decoded_all : (words w : ℕ) (y to : List ℕ) (count : ℕ) → w ≡ words → length to ≡ words * k → words_decoded f r k e w y ≡ Ok (record { body = take (w * k) to; count = count })
      → words_decoded f r k e words y ≡ Ok (record { body = to; count = count })
  decoded_all words w y to count all long q =
      subst (λ v. words_decoded f r k e v y ≡ Ok (record { body = take (v * k) to; count = count })) all q ∙ ap (λ b. Ok (record { body = b; count = count })) (take_all (words * k) to (le_of_eq long))

  -- the first refusal is the answer of all words
  refused_stays : (w m : ℕ) (y : List ℕ) (g : Fault) → words_decoded f r k e w y ≡ Err g → words_decoded f r k e (m + w) y ≡ Err g
  unfolding words_decoded
  refused_stays w zero y g q = ap (λ i. words_decoded f r k e i y) (zero-add w) ∙ q
  refused_stays w (suc m) y g q =
      let v = word (k + 2 * e) (m + w) y in
      let next : suc m + w ≡ suc (m + w) = omega arith in
      ap (λ i. words_decoded f r k e i y) next ∙ ap (then_word (with_word (m + w) (differing f r e v) (nearest f r k e v))) (refused_stays w m y g q)

  -- a word with no near code word, behind words that have one
  pub decoded_stops : (words w : ℕ) (y : List ℕ) (d : Corrected) → w < words → words_decoded f r k e w y ≡ Ok d → nearest f r k e (word (k + 2 * e) w y) ≡ None
      → words_decoded f r k e words y ≡ Err (NoCodeWord w)
  unfolding words_decoded
  decoded_stops words w y d below before none =
      let v = word (k + 2 * e) w y in
      let count : words ≡ words - suc w + suc w = omega arith in
      ap (λ i. words_decoded f r k e i y) count
      ∙ refused_stays (suc w) (words - suc w) y (NoCodeWord w) (
      ap (then_word (with_word w (differing f r e v) (nearest f r k e v))) before
      ∙ ap (λ o. with_word w (differing f r e v) o d) none
      )

-- few bytes are corrected
pub count_small : (f : ByteField) → FieldRule f → (r words k e : ℕ) → Limits r words k e → (w : ℕ) (y : List ℕ) (d : Corrected) → w ≤ words → length y ≡ words * (k + 2 * e) → words_decoded f r k e w y ≡ Ok d → d.count ≤ 4080
count_small f rule r words k e limits w y d below long q =
    let it = subst (Answers f r k e rule limits.room w) q (words_answer f r k e rule limits.room words w y below long) in
    omega (arith, it.1, small_product w e (omega (arith, limits.words_high)) (omega (arith, limits.errors_high)))
