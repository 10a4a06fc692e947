-- The Reed-Solomon stage keeps the stage rule.
use Rattle.std.proofs.Common.{◌≡◌, ℕ, zero, suc, ◌+◌, ◌*◌, ◌<◌, ◌≤◌, Bool, List, ◌++◌, length, take, drop, replicate, Some, None, Ok, Err, Option, Result, unwrap_or, sym, refl, ap, ◌∙◌, subst, ap₂, inl, le_of_eq, le_refl, suc-mul, mul-le-mul, zero-mul, arith, length-append, length-drop}
use native.Mathlib.Nat.{one-le-mul}
use native.Mathlib.Decide.{ℕ_discrete}
use lib.ListN.{length-replicate}
use Rattle.std.proofs.Math.Seq.{take-add}
use Rattle.std.proofs.lemmas.List.{drop_at, take-append-le, drop-append-le, length-take-le, take_all}
use Rattle.galois.specs.Bytes.{ByteField, FieldRule}
use Rattle.outer.specs.ByteLists.{Bytes}
use Rattle.outer.specs.Exhaustion.{first_list}
use Rattle.outer.specs.Words.{distance, encoded, is_code_word}
use Rattle.outer.specs.Nearest.{nearest}
use Rattle.outer.proofs.Bytewise.{bytes_nil, bytes_append, bytes_take, bytes_drop}
use Rattle.outer.proofs.Distances.{distance_itself}
use Rattle.outer.proofs.Exhausted.{first_list_some}
use Rattle.outer.proofs.NearWords.{encoded_says, nearest_some, nearest_itself}
use Rattle.stack.specs.declared.fault.Fault.{Fault}
use Rattle.stack.specs.Faults.{Late, fault_number}
use Rattle.stack.specs.Meaning.{Corrected}
use Rattle.stack.specs.Rules.{Decodes, StageRule}
use Rattle.reed_solomon.specs.Coding.{Limits, word, words_encoded, differing, with_word, then_word, words_decoded, coding}

-- the end of a word that is among so many
pub word_end : (w words n : ℕ) → w < words → w * n + n ≤ words * n
word_end w words n h = subst (λ m. m ≤ words * n) (suc-mul w n) (mul-le-mul h (le_refl n))

pub length-word : (n w : ℕ) (xs : List ℕ) → w * n + n ≤ length xs → length (word n w xs) ≡ n
length-word n w xs h = length-take-le n (drop (w * n) xs) (omega (arith, length-drop (w * n) xs))

pub bytes_word : (n w : ℕ) (xs : List ℕ) → Bytes xs → Bytes (word n w xs)
bytes_word n w xs h = bytes_take n (drop (w * n) xs) (bytes_drop (w * n) xs h)

-- the words before w and word w
pub take-word : (n w : ℕ) (xs : List ℕ) → take (w * n) xs ++ word n w xs ≡ take (suc w * n) xs
take-word n w xs = sym (take-add (w * n) n xs) ∙ ap (λ m. take m xs) (sym (suc-mul w n))

-- the check bytes are as many as they should be, whatever the data
length_found : (c : ℕ) (found : Option (List ℕ)) → ((xs : List ℕ) → found ≡ Some xs → length xs ≡ c) → length (unwrap_or found (replicate c 0)) ≡ c
length_found c (Some xs) h = h xs refl
length_found c None h = length-replicate c 0

pub length-encoded : (f : ByteField) (r c : ℕ) (xs : List ℕ) → length (encoded f r c xs) ≡ length xs + c
unfolding encoded
length-encoded f r c xs =
    let t : List ℕ → Bool = λ cs. is_code_word f r c (xs ++ cs) in
    length-append xs (unwrap_or (first_list c t) (replicate c 0)) ∙ ap (λ n. length xs + n) (length_found c (first_list c t) (λ ys e. (first_list_some c t ys e).0))

module _ (f : ByteField) (r k e : ℕ) where
  pub length-words_encoded : (w : ℕ) (x : List ℕ) → w * k ≤ length x → length (words_encoded f r k e w x) ≡ w * (k + 2 * e)
  unfolding words_encoded
  length-words_encoded zero x h = sym (zero-mul (k + 2 * e))
  length-words_encoded (suc w) x h =
      let room : w * k + k ≤ length x = subst (λ m. m ≤ length x) (suc-mul w k) h in
      length-append (words_encoded f r k e w x) (encoded f r (2 * e) (word k w x))
      ∙ ap₂ ◌+◌ (length-words_encoded w x (omega arith)) (length-encoded f r (2 * e) (word k w x) ∙ ap (λ m. m + 2 * e) (length-word k w x room))
      ∙ sym (suc-mul w (k + 2 * e))

  -- word v of the code words is the code word of word v
  pub word_of_encoded : (words v : ℕ) (x : List ℕ) → words * k ≤ length x → v < words → word (k + 2 * e) v (words_encoded f r k e words x) ≡ encoded f r (2 * e) (word k v x)
  unfolding words_encoded
  word_of_encoded zero v x h below = absurd (omega arith)
  word_of_encoded (suc w) v x h below =
      let room : w * k + k ≤ length x = subst (λ m. m ≤ length x) (suc-mul w k) h in
      go (ℕ_discrete v w) (length-words_encoded w x (omega arith)) (length-encoded f r (2 * e) (word k w x) ∙ ap (λ m. m + 2 * e) (length-word k w x room)) (λ b. word_of_encoded w v x (omega arith) b)
    where
      go : Dec (v ≡ w) → length (words_encoded f r k e w x) ≡ w * (k + 2 * e) → length (encoded f r (2 * e) (word k w x)) ≡ k + 2 * e
          → (v < w → word (k + 2 * e) v (words_encoded f r k e w x) ≡ encoded f r (2 * e) (word k v x))
          → word (k + 2 * e) v (words_encoded f r k e w x ++ encoded f r (2 * e) (word k w x)) ≡ encoded f r (2 * e) (word k v x)
      go (yes q) many one earlier =
          ap (take (k + 2 * e)) (ap (λ i. drop (i * (k + 2 * e)) (words_encoded f r k e w x ++ encoded f r (2 * e) (word k w x))) q ∙ drop_at (words_encoded f r k e w x) (encoded f r (2 * e) (word k w x)) (w * (k + 2 * e)) many)
          ∙ take_all (k + 2 * e) (encoded f r (2 * e) (word k w x)) (omega arith) ∙ ap (λ i. encoded f r (2 * e) (word k i x)) (sym q)
      go (no q) many one earlier =
          let end : v * (k + 2 * e) + (k + 2 * e) ≤ w * (k + 2 * e) = word_end v w (k + 2 * e) (omega arith) in
          ap (take (k + 2 * e)) (drop-append-le (v * (k + 2 * e)) (words_encoded f r k e w x) (encoded f r (2 * e) (word k w x)) (omega arith))
          ∙ take-append-le (k + 2 * e) (drop (v * (k + 2 * e)) (words_encoded f r k e w x)) (encoded f r (2 * e) (word k w x)) (omega (arith, length-drop (v * (k + 2 * e)) (words_encoded f r k e w x)))
          ∙ earlier (omega arith)

  module _ (rule : FieldRule f) (room : k + 2 * e ≤ 255) where
    pub bytes_words_encoded : (w : ℕ) (x : List ℕ) → w * k ≤ length x → Bytes x → Bytes (words_encoded f r k e w x)
    unfolding words_encoded
    bytes_words_encoded zero x h b = bytes_nil
    bytes_words_encoded (suc w) x h b =
        let fits : w * k + k ≤ length x = subst (λ m. m ≤ length x) (suc-mul w k) h in
        bytes_append (words_encoded f r k e w x) (encoded f r (2 * e) (word k w x)) (bytes_words_encoded w x (omega arith) b)
        (encoded_says f rule r k (2 * e) (word k w x) room (length-word k w x fits) (bytes_word k w x b)).small

    -- a code word is read as its data, with nothing corrected
    word_back : (w : ℕ) (x y : List ℕ) (d : Corrected) → length x ≡ k → Bytes x → y ≡ encoded f r (2 * e) x
        → with_word w (differing f r e y) (nearest f r k e y) d ≡ Ok (record { body = d.body ++ x; count = d.count })
    unfolding differing
    word_back w x y d lx hx q =
        let says = encoded_says f rule r k (2 * e) x room lx hx in
        let near : nearest f r k e y ≡ Some x
        = ap (nearest f r k e) q ∙ nearest_itself f rule r k e (encoded f r (2 * e) x) room says.long says.small says.code ∙ ap Some says.front in
        let none : d.count + distance (encoded f r (2 * e) x) y ≡ d.count = omega (arith, ap (distance (encoded f r (2 * e) x)) q ∙ distance_itself (encoded f r (2 * e) x)) in
        ap (λ o. with_word w (differing f r e y) o d) near ∙ ap (λ n. Ok (record { body = d.body ++ x; count = n })) none

    words_back : (words w : ℕ) (x : List ℕ) → w ≤ words → words * k ≤ length x → Bytes x
        → words_decoded f r k e w (words_encoded f r k e words x) ≡ Ok (record { body = take (w * k) x; count = 0 })
    unfolding words_decoded
    words_back words zero x h long b = ap (λ l. Ok (record { body = l; count = 0 })) (sym (ap (λ n. take n x) (zero-mul k)))
    words_back words (suc w) x h long b =
        let y = word (k + 2 * e) w (words_encoded f r k e words x) in
        ap (then_word (with_word w (differing f r e y) (nearest f r k e y))) (words_back words w x (omega arith) long b)
        ∙ word_back w (word k w x) y (record { body = take (w * k) x; count = 0 }) (length-word k w x (omega (arith, word_end w words k h))) (bytes_word k w x b) (word_of_encoded words w x long h)
        ∙ ap (λ l. Ok (record { body = l; count = 0 })) (take-word k w x)

    -- what the first words may answer
    abbrev pub Answers : ℕ → Result Corrected Fault → Type 0
    Answers w (Ok d) = (length d.body ≡ w * k) × (d.count ≤ w * e)
    Answers w (Err g) = Late (fault_number g)

    with_answers : (w : ℕ) (y : List ℕ) (o : Option (List ℕ)) (d : Corrected) → nearest f r k e y ≡ o → length y ≡ k + 2 * e
        → (length d.body ≡ w * k) × (d.count ≤ w * e) → Answers (suc w) (with_word w (differing f r e y) o d)
    unfolding differing
    with_answers w y None d q ly a = inl refl
    with_answers w y (Some x) d q ly a =
        let it = nearest_some f rule r k e y room ly x q in
        (length-append d.body x ∙ ap₂ ◌+◌ a.0 it.0 ∙ sym (suc-mul w k), omega (arith, it.2.near, a.1, suc-mul w e))

    then_answers : (w : ℕ) (y : List ℕ) (v : Result Corrected Fault) → length y ≡ k + 2 * e → Answers w v → Answers (suc w) (then_word (with_word w (differing f r e y) (nearest f r k e y)) v)
    then_answers w y (Ok d) ly a = with_answers w y (nearest f r k e y) d refl ly a
    then_answers w y (Err g) ly a = a

    pub words_answer : (words w : ℕ) (y : List ℕ) → w ≤ words → length y ≡ words * (k + 2 * e) → Answers w (words_decoded f r k e w y)
    unfolding words_decoded
    words_answer words zero y h ly = (sym (zero-mul k), omega arith)
    words_answer words (suc w) y h ly =
        then_answers w (word (k + 2 * e) w y) (words_decoded f r k e w y) (length-word (k + 2 * e) w y (omega (arith, word_end w words (k + 2 * e) h))) (words_answer words w y (omega arith) ly)

-- few enough
pub small_product : (a b : ℕ) → a ≤ 16 → b ≤ 255 → a * b ≤ 4080
small_product a b h l = mul-le-mul h l

answers_decode : (f : ByteField) (rule : FieldRule f) (r words k e : ℕ) (room : k + 2 * e ≤ 255) (v : Result Corrected Fault) → words * e ≤ 4080 → Answers f r k e rule room words v → Decodes (coding f r words k e) v
answers_decode f rule r words k e room (Ok d) few a = record { body = a.0; count = omega (arith, a.1) }
answers_decode f rule r words k e room (Err g) few a = a

pub coding_rule : (f : ByteField) → FieldRule f → (r words k e : ℕ) → Limits r words k e → StageRule (coding f r words k e)
coding_rule f rule r words k e limits =
    let n = k + 2 * e in
    let upper : words * k ≤ 4080 = small_product words k limits.words_high (omega (arith, limits.room)) in
    let lower : words * n ≤ 4080 = small_product words n limits.words_high limits.room in
    let count : words * e ≤ 4080 = small_product words e limits.words_high (omega (arith, limits.errors_high)) in
    record {
      upper = record { low = one-le-mul limits.words_low limits.data_low; high = omega arith };
      lower = record { low = one-le-mul {b = n} limits.words_low (omega (arith, limits.data_low)); high = omega arith };
      encode_length = λ x h. length-words_encoded f r k e words x (le_of_eq (sym h));
      encode_bytes = λ x h b. bytes_words_encoded f r k e rule limits.room words x (le_of_eq (sym h)) b;
      decodes = λ y h. answers_decode f rule r words k e limits.room (words_decoded f r k e words y) count (words_answer f r k e rule limits.room words words y (le_refl words) h);
      returns = λ x h b. words_back f r k e rule limits.room words words x (le_refl words) (le_of_eq (sym h)) b ∙ ap (λ l. Ok (record { body = l; count = 0 })) (take_all (words * k) x (le_of_eq h));
    }
