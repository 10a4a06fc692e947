-- What Reed-Solomon on the block interleaver bears.
use Rattle.std.proofs.Common.{◌≡◌, ℕ, zero, suc, ◌+◌, ◌-◌, ◌*◌, ◌/◌, ◌<◌, ◌≤◌, Bool, true, false, cond, eqb, ◌⊎◌, List, [], ◌∷◌, ◌++◌, length, get_or, take, drop, Some, None, Ok, Err, Option, sym, refl, ap, ◌∙◌, subst, ap₂, inl, inr, le_of_eq, le_refl, add-zero, mod-lt, suc-mul, mul_comm, add-mul, mul-le-mul, zero-add, zero-mul, arith, eq-eqb}
use native.Mathlib.Nat.{div-add-mod}
use native.Mathlib.Decide.{ℕ_discrete}
use Rattle.std.proofs.lemmas.Bool.{cases_lt}
use Rattle.std.proofs.lemmas.List.{get_or_past, get_or-take, get_or-drop, take_all, length-take-le}
use Rattle.galois.specs.Bytes.{ByteField, FieldRule}
use Rattle.outer.specs.Nearest.{Near, nearest}
use Rattle.outer.specs.Words.{distance, encoded}
use Rattle.outer.proofs.NearWords.{encoded_says, nearest_is, nearest_some}
use Rattle.permutation.specs.Arrange.{restored}
use Rattle.permutation.specs.Transposed.{transposition}
use Rattle.permutation.proofs.Permuting.{length-restored}
use Rattle.permutation.proofs.Picking.{get_d_picked}
use Rattle.permutation.proofs.Rows.{element_below}
use Rattle.permutation.specs.Turning.{transposition_rearranges, turned-at}
use Rattle.stack.specs.declared.fault.Fault.TheVariants.{NoCodeWord}
use Rattle.stack.specs.Buffers.{Bytes}
use Rattle.stack.specs.Meaning.{Corrected, Received, CarrierMeaning, decoded, raised}
use Rattle.stack.specs.Rules.{Receives, CarrierRule}
use Rattle.stages.specs.Interleaving.{interleaving}
use Rattle.stages.specs.Moved.{byte_moves}
use Rattle.reed_solomon.specs.Coding.{Limits, word, words_encoded, differing, with_word, then_word, words_decoded, coding}
use Rattle.reed_solomon.specs.Bursts.{SameOutside, protected, Protected}
use Rattle.reed_solomon.specs.Coded.{word_end, length-word, bytes_word, take-word, length-words_encoded, word_of_encoded}

-- lists that are the same outside m neighbouring places differ in at most m
differ_few : (xs ys : List ℕ) (p m : ℕ) → SameOutside p m xs ys → distance xs ys ≤ m
unfolding distance
differ_few [] ys p m h = omega arith
differ_few (x ∷ xs) [] p m h = omega arith
differ_few (x ∷ xs) (y ∷ ys) (suc p) m h =
    let same : x ≡ y = h 0 (inl (omega arith)) in
    let rest : distance xs ys ≤ m = differ_few xs ys p m (λ i w. h (suc i) (elim w [ inl b ↦ inl (omega arith) | inr b ↦ inr (omega arith) ])) in
    let none : ◌≡◌ {A = ℕ} (cond (eqb x y) 0 1) 0 = ap (λ b. cond b 0 1) (eq-eqb x y same) in
    omega arith
differ_few (x ∷ xs) (y ∷ ys) zero zero h =
    let same : x ≡ y = h 0 (inr (omega arith)) in
    let rest : distance xs ys ≤ 0 = differ_few xs ys zero zero (λ i w. h (suc i) (inr (omega arith))) in
    let none : ◌≡◌ {A = ℕ} (cond (eqb x y) 0 1) 0 = ap (λ b. cond b 0 1) (eq-eqb x y same) in
    omega arith
differ_few (x ∷ xs) (y ∷ ys) zero (suc m) h =
    let rest : distance xs ys ≤ m = differ_few xs ys zero m (λ i w. h (suc i) (elim w [ inl b ↦ absurd (omega arith) | inr b ↦ inr (omega arith) ])) in
    let one : cond (eqb x y) 0 1 ≤ 1 = one_at_most (eqb x y) in
    omega arith
  where
    one_at_most : (b : Bool) → cond b 0 1 ≤ 1
    one_at_most true = omega arith
    one_at_most false = omega arith

distance_none : (ys : List ℕ) → distance [] ys ≡ 0
unfolding distance
distance_none ys = refl

distance-append : (us vs xs ys : List ℕ) → length us ≡ length vs → distance (us ++ xs) (vs ++ ys) ≡ distance us vs + distance xs ys
unfolding distance
distance-append [] [] xs ys h = sym (zero-add (distance xs ys))
distance-append [] (v ∷ vs) xs ys h = absurd (omega arith)
distance-append (u ∷ us) [] xs ys h = absurd (omega arith)
distance-append (u ∷ us) (v ∷ vs) xs ys h =
    let rest : distance (us ++ xs) (vs ++ ys) ≡ distance us vs + distance xs ys = distance-append us vs xs ys (omega arith) in
    ap (λ m. cond (eqb u v) 0 1 + m) rest ∙ omega arith

-- the places of one word among neighbouring places: from some column on, as many columns as there are places for each word
pub record Columns (p words e w first : ℕ) : Type 0 where
  pub before : (c : ℕ) → c < first → c * words + w < p
  pub behind : (c : ℕ) → first + e ≤ c → p + e * words ≤ c * words + w

columns : (p words e w : ℕ) → w < words → Columns p words e w ((p + (words - 1 - w)) / words)
columns p words e w h =
    let m = p + (words - 1 - w) in
    let q = m / words in
    let split = div-add-mod m words in
    let rem = mod-lt m {m = words} (omega arith) in
    let turn : words * q ≡ q * words = mul_comm words q in
    record {
      before = λ c l. let step : suc c * words ≤ q * words = mul-le-mul l (le_refl words) in omega (arith, split, rem, turn, suc-mul c words);
      behind = λ c l. let step : (q + e) * words ≤ c * words = mul-le-mul l (le_refl words) in omega (arith, split, rem, turn, add-mul q e words);
    }

word_at : (n w c : ℕ) (xs : List ℕ) → c < n → get_or (word n w xs) c 0 ≡ get_or xs (w * n + c) 0
word_at n w c xs h = get_or-take n (drop (w * n) xs) c 0 h ∙ get_or-drop (w * n) xs c 0

-- outside its length a list has nothing
word_past : (xs : List ℕ) (n c : ℕ) → length xs ≡ n → n ≤ c → get_or xs c 0 ≡ 0
word_past xs n c h l = get_or_past xs c 0 (omega arith)

module _ (f : ByteField) (rule : FieldRule f) (r words k e : ℕ) (limits : Limits r words k e) where
  handed-at : (y : List ℕ) (w c : ℕ) → length y ≡ words * (k + 2 * e) → w < words → c < k + 2 * e
      → get_or (restored (transposition words (k + 2 * e)) y) (w * (k + 2 * e) + c) 0 ≡ get_or y (c * words + w) 0
  unfolding restored
  handed-at y w c long below within =
      let n = k + 2 * e in
      let a = transposition words n in
      let law = transposition_rearranges words n limits.words_low (omega (arith, limits.data_low)) in
      let here : w * n + c < words * n = element_below a refl below within in
      get_d_picked a.place (words * n) y (λ j h. subst (λ m. a.place j < m) (sym long) (law.place_below j h)) (w * n + c) 0 here ∙ ap (λ i. get_or y i 0) (turned-at words n w c within)

  length-handed : (y : List ℕ) → length y ≡ words * (k + 2 * e) → length (restored (transposition words (k + 2 * e)) y) ≡ words * (k + 2 * e)
  length-handed y long = length-restored (transposition words (k + 2 * e)) (transposition_rearranges words (k + 2 * e) limits.words_low (omega (arith, limits.data_low))) y long

  module _ (y : List ℕ) (long : length y ≡ words * (k + 2 * e)) where
    long_word : (w : ℕ) → w < words → length (word (k + 2 * e) w (restored (transposition words (k + 2 * e)) y)) ≡ k + 2 * e
    long_word w h = length-word (k + 2 * e) w (restored (transposition words (k + 2 * e)) y) (omega (arith, length-handed y long, word_end w words (k + 2 * e) h))

    module _ (x : List ℕ) (lx : length x ≡ words * k) (hx : Bytes x) (p : ℕ)
        (same : SameOutside p (e * words) ((interleaving words (k + 2 * e)).encode (words_encoded f r k e words x)) y) where
      -- each word of what was handed up is within e bytes of the code word that was written
      near_word : (w : ℕ) → w < words → Near f r e (k + 2 * e) (word (k + 2 * e) w (restored (transposition words (k + 2 * e)) y)) (encoded f r (2 * e) (word k w x))
      near_word w h =
          let n = k + 2 * e in
          let z = restored (transposition words n) y in
          let data-long : length (word k w x) ≡ k = length-word k w x (omega (arith, word_end w words k h)) in
          let says = encoded_says f rule r k (2 * e) (word k w x) limits.room data-long (bytes_word k w x hx) in
          let at = columns p words e w h in
          record {
            long = says.long;
            small = says.small;
            code = says.code;
            near = differ_few (encoded f r (2 * e) (word k w x)) (word n w z) ((p + (words - 1 - w)) / words) e (λ c out. elim (cases_lt c n) [
              | inl b ↦ sym (ap (λ l. get_or l c 0) (word_of_encoded f r k e words w x (le_of_eq (sym lx)) h))
                  ∙ word_at n w c (words_encoded f r k e words x) b
                  ∙ sym (byte_moves words n (words_encoded f r k e words x) w c (length-words_encoded f r k e words x (le_of_eq (sym lx))) h b)
                  ∙ same (c * words + w) (elim out [ inl o ↦ inl (at.before c o) | inr o ↦ inr (at.behind c o) ])
                  ∙ sym (handed-at y w c long h b)
                  ∙ sym (word_at n w c z b)
              | inr b ↦ word_past (encoded f r (2 * e) (word k w x)) n c says.long b ∙ sym (word_past (word n w z) n c (long_word w h) b)
            ]);
          }

      -- so each word gives its data
      nearest-word : (w : ℕ) → w < words → nearest f r k e (word (k + 2 * e) w (restored (transposition words (k + 2 * e)) y)) ≡ Some (word k w x)
      nearest-word w h =
          nearest_is f rule r k e (word (k + 2 * e) w (restored (transposition words (k + 2 * e)) y)) limits.room (long_word w h) (encoded f r (2 * e) (word k w x)) (near_word w h)
          ∙ ap Some (encoded_says f rule r k (2 * e) (word k w x) limits.room (length-word k w x (omega (arith, word_end w words k h))) (bytes_word k w x hx)).front

      words_return : (w : ℕ) → w ≤ words
          → words_decoded f r k e w (restored (transposition words (k + 2 * e)) y)
          ≡ Ok (record { body = take (w * k) x; count = distance (words_encoded f r k e w x) (take (w * (k + 2 * e)) (restored (transposition words (k + 2 * e)) y)) })
      unfolding words_decoded words_encoded differing
      words_return zero h = ap₂ (λ b m. Ok (record { body = b; count = m })) (sym (ap (λ i. take i x) (zero-mul k))) (sym (distance_none (take (0 * (k + 2 * e)) (restored (transposition words (k + 2 * e)) y))))
      words_return (suc w) h =
          let n = k + 2 * e in
          let z = restored (transposition words n) y in
          let v = word n w z in
          let d : Corrected = record { body = take (w * k) x; count = distance (words_encoded f r k e w x) (take (w * n) z) } in
          let lengths : length (words_encoded f r k e w x) ≡ length (take (w * n) z)
          = length-words_encoded f r k e w x (omega (arith, word_end w words k h)) ∙ sym (length-take-le (w * n) z (omega (arith, length-handed y long, word_end w words n h))) in
          ap (then_word (with_word w (differing f r e v) (nearest f r k e v))) (words_return w (omega arith))
          ∙ ap (λ o. with_word w (differing f r e v) o d) (nearest-word w h)
          ∙ ap₂ (λ b m. Ok (record { body = b; count = m })) (take-word k w x)
          (sym (distance-append (words_encoded f r k e w x) (take (w * n) z) (encoded f r (2 * e) (word k w x)) v lengths) ∙ ap (distance (words_encoded f r k e w x ++ encoded f r (2 * e) (word k w x))) (take-word n w z))

    -- a word has a near code word, or none
    near_or_not : (w : ℕ) → w < words → ((x : List ℕ) × (nearest f r k e (word (k + 2 * e) w (restored (transposition words (k + 2 * e)) y)) ≡ Some x)) ⊎ (nearest f r k e (word (k + 2 * e) w (restored (transposition words (k + 2 * e)) y)) ≡ None)
    near_or_not w h = go (nearest f r k e (word (k + 2 * e) w (restored (transposition words (k + 2 * e)) y))) refl
      where
        go : (o : Option (List ℕ)) → nearest f r k e (word (k + 2 * e) w (restored (transposition words (k + 2 * e)) y)) ≡ o
            → ((x : List ℕ) × (nearest f r k e (word (k + 2 * e) w (restored (transposition words (k + 2 * e)) y)) ≡ Some x)) ⊎ (nearest f r k e (word (k + 2 * e) w (restored (transposition words (k + 2 * e)) y)) ≡ None)
        go (Some x) q = inl (x, q)
        go None q = inr q

    has_near : (w : ℕ) (x : List ℕ) → w < words → nearest f r k e (word (k + 2 * e) w (restored (transposition words (k + 2 * e)) y)) ≡ Some x
        → (z : List ℕ) × Near f r e (k + 2 * e) (word (k + 2 * e) w (restored (transposition words (k + 2 * e)) y)) z
    has_near w x h q = (encoded f r (2 * e) x, (nearest_some f rule r k e (word (k + 2 * e) w (restored (transposition words (k + 2 * e)) y)) limits.room (long_word w h) x q).2)

    has_none : (w : ℕ) → w < words → nearest f r k e (word (k + 2 * e) w (restored (transposition words (k + 2 * e)) y)) ≡ None
        → ((z : List ℕ) × Near f r e (k + 2 * e) (word (k + 2 * e) w (restored (transposition words (k + 2 * e)) y)) z) → ⊥
    has_none w h q (z, near) =
        let both : None ≡ Some (take k z) = sym q ∙ nearest_is f rule r k e (word (k + 2 * e) w (restored (transposition words (k + 2 * e)) y)) limits.room (long_word w h) z near in
        let no : ◌≡◌ {A = ℕ} 0 1 = cc both in
        omega arith

    -- the first words all have near code words and give data, or the lowest that has none is refused
    pub record Refused (w : ℕ) : Type 0 where
      pub word_number : ℕ
      pub below : word_number < w
      pub none : nearest f r k e (word (k + 2 * e) word_number (restored (transposition words (k + 2 * e)) y)) ≡ None
      pub others : (u : ℕ) → u < word_number → (x : List ℕ) × (nearest f r k e (word (k + 2 * e) u (restored (transposition words (k + 2 * e)) y)) ≡ Some x)
      pub answer : words_decoded f r k e w (restored (transposition words (k + 2 * e)) y) ≡ Err (NoCodeWord word_number)

    pub record Given (w : ℕ) : Type 0 where
      pub found : Corrected
      pub all : (u : ℕ) → u < w → (x : List ℕ) × (nearest f r k e (word (k + 2 * e) u (restored (transposition words (k + 2 * e)) y)) ≡ Some x)
      pub answer : words_decoded f r k e w (restored (transposition words (k + 2 * e)) y) ≡ Ok found

    either_way : (w : ℕ) → w ≤ words → Given w ⊎ Refused w
    unfolding words_decoded
    either_way zero h = inl (record { found = record { body = []; count = 0 }; all = λ u l. absurd (omega arith); answer = refl })
    either_way (suc w) h = go (either_way w (omega arith)) (near_or_not w h)
      where
        go : Given w ⊎ Refused w → ((x : List ℕ) × (nearest f r k e (word (k + 2 * e) w (restored (transposition words (k + 2 * e)) y)) ≡ Some x)) ⊎ (nearest f r k e (word (k + 2 * e) w (restored (transposition words (k + 2 * e)) y)) ≡ None)
            → Given (suc w) ⊎ Refused (suc w)
        go (inl given) (inl (x, q)) = inl (record {
          found = record { body = given.found.body ++ x; count = given.found.count + differing f r e (word (k + 2 * e) w (restored (transposition words (k + 2 * e)) y)) x };
          all = λ u l. elim (ℕ_discrete u w) [
            | yes s ↦ (x, ap (λ i. nearest f r k e (word (k + 2 * e) i (restored (transposition words (k + 2 * e)) y))) s ∙ q)
            | no s ↦ given.all u (omega arith)
          ];
          answer = ap (then_word (with_word w (differing f r e (word (k + 2 * e) w (restored (transposition words (k + 2 * e)) y))) (nearest f r k e (word (k + 2 * e) w (restored (transposition words (k + 2 * e)) y))))) given.answer
              ∙ ap (λ o. with_word w (differing f r e (word (k + 2 * e) w (restored (transposition words (k + 2 * e)) y))) o given.found) q;
        })
        go (inl given) (inr q) = inr (record {
          word_number = w;
          below = omega arith;
          none = q;
          others = given.all;
          answer = ap (then_word (with_word w (differing f r e (word (k + 2 * e) w (restored (transposition words (k + 2 * e)) y))) (nearest f r k e (word (k + 2 * e) w (restored (transposition words (k + 2 * e)) y))))) given.answer
              ∙ ap (λ o. with_word w (differing f r e (word (k + 2 * e) w (restored (transposition words (k + 2 * e)) y))) o given.found) q;
        })
        go (inr lost) o = inr (record {
          word_number = lost.word_number;
          below = omega (arith, lost.below);
          none = lost.none;
          others = lost.others;
          answer = ap (then_word (with_word w (differing f r e (word (k + 2 * e) w (restored (transposition words (k + 2 * e)) y))) (nearest f r k e (word (k + 2 * e) w (restored (transposition words (k + 2 * e)) y))))) lost.answer;
        })

-- what the whole gives, by what its carrier handed up
protected_got : {R : Type 0} (f : ByteField) (r words k e : ℕ) (c : CarrierMeaning R) (rs : List R) (g : Received) → c.got rs ≡ Ok g
    → (protected f r words k e c).got rs
    ≡ decoded (record { symbols = g.counts.symbols; bytes = g.counts.bytes + 0 }) (words_decoded f r k e words (restored (transposition words (k + 2 * e)) g.body))
protected_got f r words k e c rs g q = ap (λ v. raised (coding f r words k e) (raised (interleaving words (k + 2 * e)) v)) q

handed-length : {R : Type 0} (c : CarrierMeaning R) (rs : List R) (g : Received) → CarrierRule c → length rs ≡ c.air → c.got rs ≡ Ok g → length g.body ≡ c.body
handed-length c rs g rule h q = (subst (Receives c) q (rule.receives rs h)).body

pub protects : {R : Type 0} (f : ByteField) → FieldRule f → (r words k e : ℕ) → Limits r words k e → (c : CarrierMeaning R) → CarrierRule c → c.body ≡ words * (k + 2 * e) → Protected f r words k e c
protects f field r words k e limits c rule meets = record {
  burst = λ x rs g p lx hx h q same.
      let long : length g.body ≡ words * (k + 2 * e) = handed-length c rs g rule h q ∙ meets in
      let z = restored (transposition words (k + 2 * e)) g.body in
      let back = words_return f field r words k e limits g.body long x lx hx p same words (le_refl words) in
      let all : take (words * k) x ≡ x = take_all (words * k) x (le_of_eq lx) in
      let every : take (words * (k + 2 * e)) z ≡ z = take_all (words * (k + 2 * e)) z (le_of_eq (length-handed f field r words k e limits g.body long)) in
      protected_got f r words k e c rs g q
      ∙ ap (decoded (record { symbols = g.counts.symbols; bytes = g.counts.bytes + 0 })) back
      ∙ ap₂ (λ b m. Ok (record { body = b; counts = record { symbols = g.counts.symbols; bytes = m } })) all (ap₂ (λ m l. m + distance (words_encoded f r k e words x) l) (add-zero g.counts.bytes) every);
  gives = λ rs g h q near.
      let long : length g.body ≡ words * (k + 2 * e) = handed-length c rs g rule h q ∙ meets in
      elim (either_way f field r words k e limits g.body long words (le_refl words)) [
        | inl given ↦ (_, protected_got f r words k e c rs g q ∙ ap (decoded (record { symbols = g.counts.symbols; bytes = g.counts.bytes + 0 })) given.answer)
        | inr lost ↦ absurd (has_none f field r words k e limits g.body long lost.word_number lost.below lost.none (near lost.word_number lost.below))
      ];
  refuses = λ rs g w h q below none.
      let long : length g.body ≡ words * (k + 2 * e) = handed-length c rs g rule h q ∙ meets in
      elim (either_way f field r words k e limits g.body long words (le_refl words)) [
        | inl given ↦ absurd (none (has_near f field r words k e limits g.body long w (given.all w below).0 below (given.all w below).1))
        | inr lost ↦ (
          lost.word_number,
          elim (cases_lt w lost.word_number) [
            | inl b ↦ absurd (none (has_near f field r words k e limits g.body long w (lost.others w b).0 below (lost.others w b).1))
            | inr b ↦ b
          ],
          has_none f field r words k e limits g.body long lost.word_number lost.below lost.none,
          λ u b. has_near f field r words k e limits g.body long u (lost.others u b).0 (omega (arith, lost.below)) (lost.others u b).1,
          protected_got f r words k e c rs g q ∙ ap (decoded (record { symbols = g.counts.symbols; bytes = g.counts.bytes + 0 })) lost.answer,
        )
      ];
}
