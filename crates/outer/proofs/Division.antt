-- Division by the generator polynomial, and the code words that it makes.
use Rattle.std.proofs.Common.{◌≡◌, ℕ, suc, ◌+◌, ◌<◌, ◌≤◌, ◌⊎◌, List, [], ◌∷◌, ◌++◌, length, get_or, take, drop, replicate, sym, refl, ap, ◌∙◌, ap₂, inl, inr, le_of_eq, arith, length-drop}
use lib.Bits.{bit_xor, xor_lt}
use lib.ListN.{length-replicate}
use Rattle.std.proofs.lemmas.List.{get_or-drop, get_or-take, length-take-le, ext_get_or, nil_from_length, get_or_past}
use Rattle.std.proofs.lemmas.Bool.{cases_lt}
use Rattle.galois.specs.Bytes.{ByteField, FieldRule}
use Rattle.outer.specs.Lanes.{root}
use Rattle.outer.specs.Words.{value_from, value, syndrome, CodeWord}
use Rattle.outer.specs.Encoder.{plus_multiple, generator_of, coefficient}
use Rattle.outer.specs.ByteLists.{Bytes}
use Rattle.outer.proofs.Bytewise.{bytes_drop}
use Rattle.outer.proofs.Zeros.{bytes_zeros, get_or-zeros}
use Rattle.outer.proofs.Bytewise.{power_small}
use Rattle.outer.proofs.Equations.{mul_zero, zero_mul, xor_between}
use Rattle.outer.proofs.Values.{value_from-append, length-plus_multiple, step_small, value_from-zeros, get_or-plus_multiple, bytes_plus_multiple, value-plus_multiple}
use Rattle.outer.proofs.Generators.{length_generator, bytes_generator, generator_zero}

-- the remainder so far and one data byte more
unfoldable pub advanced : ByteField → List ℕ → List ℕ → ℕ → List ℕ
advanced f gs rs d = plus_multiple f (bit_xor (get_or rs 0 0) d) (drop 1 rs) gs

-- the remainder so far and more data
unfoldable pub divided : ByteField → List ℕ → List ℕ → List ℕ → List ℕ
divided f gs rs [] = rs
divided f gs rs (d ∷ ds) = divided f gs (advanced f gs rs d) ds

pub divided_push : (f : ByteField) (gs rs ds : List ℕ) (d : ℕ) → divided f gs rs (ds ++ d ∷ []) ≡ advanced f gs (divided f gs rs ds) d
unfolding divided
divided_push f gs rs [] d = refl
divided_push f gs rs (e ∷ ds) d = divided_push f gs (advanced f gs rs e) ds d

pub length-advanced : (f : ByteField) (gs rs : List ℕ) (d : ℕ) → length (advanced f gs rs d) ≡ length gs
unfolding advanced
length-advanced f gs rs d = length-plus_multiple f (bit_xor (get_or rs 0 0) d) (drop 1 rs) gs

pub length-divided : (f : ByteField) (gs rs ds : List ℕ) → length rs ≡ length gs → length (divided f gs rs ds) ≡ length gs
unfolding divided
length-divided f gs rs [] h = h
length-divided f gs rs (d ∷ ds) h = length-divided f gs (advanced f gs rs d) ds (length-advanced f gs rs d)

module _ (f : ByteField) (rule : FieldRule f) where
  module _ (gs : List ℕ) (hg : Bytes gs) where
    pub bytes_advanced : (rs : List ℕ) (d : ℕ) → Bytes rs → d < 256 → Bytes (advanced f gs rs d)
    unfolding advanced
    bytes_advanced rs d hr hd = bytes_plus_multiple f rule (bit_xor (get_or rs 0 0) d) (xor_lt 8 (get_or rs 0 0) d (hr 0) hd) (drop 1 rs) gs (bytes_drop 1 rs hr) hg

    pub bytes_divided : (rs ds : List ℕ) → Bytes rs → Bytes ds → Bytes (divided f gs rs ds)
    unfolding divided
    bytes_divided rs [] hr hd = hr
    bytes_divided rs (d ∷ ds) hr hd = bytes_divided (advanced f gs rs d) ds (bytes_advanced rs d hr (hd 0)) (λ k. hd (suc k))

    pub get_or-advanced : (rs : List ℕ) (d l : ℕ) → Bytes rs → d < 256 → length rs ≤ length gs
        → get_or (advanced f gs rs d) l 0 ≡ bit_xor (get_or rs (1 + l) 0) (f.mul (bit_xor (get_or rs 0 0) d) (get_or gs l 0))
    unfolding advanced
    get_or-advanced rs d l hr hd h =
        get_or-plus_multiple f rule (bit_xor (get_or rs 0 0) d) (xor_lt 8 (get_or rs 0 0) d (hr 0) hd) (drop 1 rs) gs l (simp length-drop (omega arith))
        ∙ ap (λ b. bit_xor b (f.mul (bit_xor (get_or rs 0 0) d) (get_or gs l 0))) (get_or-drop 1 rs l 0)

    module _ (x : ℕ) (hx : x < 256) (zero-there : value_from f 1 gs x ≡ 0) where
      -- data before the remainder, of value p, and one data byte more
      advanced_zero : (p d : ℕ) (rs : List ℕ) → p < 256 → d < 256 → Bytes rs → length rs ≡ length gs → value_from f p rs x ≡ 0
          → value_from f (bit_xor (f.mul p x) d) (advanced f gs rs d) x ≡ 0
      unfolding advanced value_from
      advanced_zero p d [] hp hd hr h e =
          let one : value_from f 1 gs x ≡ 1 = ap (λ g. value_from f 1 g x) (nil_from_length gs (sym h)) in
          absurd (omega arith)
      advanced_zero p d (q ∷ qs) hp hd hr h e =
          let k = bit_xor q d in
          let u = bit_xor (f.mul p x) q in
          let hk : k < 256 = xor_lt 8 q d (hr 0) hd in
          ap (λ v. value_from f v (plus_multiple f k qs gs) x) (sym (ap (bit_xor u) (rule.mul_one k hk) ∙ xor_between (f.mul p x) q d))
          ∙ value-plus_multiple f rule k hk u 1 x qs gs (step_small f rule p x q hp hx (hr 0)) (omega arith) hx (λ i. hr (suc i)) hg h
          ∙ ap₂ (λ a b. bit_xor (f.mul a x) (f.mul k b)) e zero-there ∙ ap₂ bit_xor (zero_mul f rule x hx) (mul_zero f rule k hk)

      pub divided_zero : (p : ℕ) (rs ds : List ℕ) → p < 256 → Bytes rs → Bytes ds → length rs ≡ length gs → value_from f p rs x ≡ 0
          → value_from f (value_from f p ds x) (divided f gs rs ds) x ≡ 0
      unfolding divided value_from
      divided_zero p rs [] hp hr hd h e = e
      divided_zero p rs (d ∷ ds) hp hr hd h e =
          divided_zero (bit_xor (f.mul p x) d) (advanced f gs rs d) ds (step_small f rule p x d hp hx (hd 0)) (bytes_advanced rs d hr (hd 0)) (λ k. hd (suc k))
          (length-advanced f gs rs d) (advanced_zero p d rs hp (hd 0) hr h e)

-- the remainder of data, and c zeros behind them, by the generator
unfoldable pub remainder : ByteField → ℕ → ℕ → List ℕ → List ℕ
remainder f r c xs = divided f (generator_of f r c) (replicate c 0) xs

pub length-remainder : (f : ByteField) (r c : ℕ) (xs : List ℕ) → length (remainder f r c xs) ≡ c
unfolding remainder
length-remainder f r c xs =
    length-divided f (generator_of f r c) (replicate c 0) xs (length-replicate c 0 ∙ sym (length_generator f r c)) ∙ length_generator f r c

pub remainder_none_lane : (f : ByteField) (r c l : ℕ) → get_or (replicate 32 0) l 0 ≡ get_or (remainder f r c []) l 0
unfolding remainder divided
remainder_none_lane f r c l = get_or-zeros 32 l ∙ sym (get_or-zeros c l)

module _ (f : ByteField) (rule : FieldRule f) (r c : ℕ) (xs : List ℕ) (hs : Bytes xs) where
  pub bytes_remainder : Bytes (remainder f r c xs)
  unfolding remainder
  bytes_remainder = bytes_divided f rule (generator_of f r c) (bytes_generator f rule r c) (replicate c 0) xs (bytes_zeros c) hs

  pub get_or-remainder_push : (d l : ℕ) → d < 256
      → get_or (remainder f r c (xs ++ d ∷ [])) l 0
      ≡ bit_xor (get_or (remainder f r c xs) (1 + l) 0) (f.mul (bit_xor (get_or (remainder f r c xs) 0 0) d) (get_or (generator_of f r c) l 0))
  unfolding remainder
  get_or-remainder_push d l h =
      let gs = generator_of f r c in
      ap (λ rs. get_or rs l 0) (divided_push f gs (replicate c 0) xs d)
      ∙ get_or-advanced f rule gs (bytes_generator f rule r c) (divided f gs (replicate c 0) xs) d l
      (bytes_divided f rule gs (bytes_generator f rule r c) (replicate c 0) xs (bytes_zeros c) hs) h
      (le_of_eq (length-divided f gs (replicate c 0) xs (length-replicate c 0 ∙ sym (length_generator f r c))))

  -- lanes that hold the remainder, and the lanes after one data byte more
  pub remainder_more : (s t : List ℕ) (d : ℕ) → d < 256 → c ≤ 32 → length s ≡ 32 → ((l : ℕ) → l < 32 → get_or s l 0 ≡ get_or (remainder f r c xs) l 0)
      → ((l : ℕ) → l < 32 → get_or t l 0 ≡ bit_xor (get_or s (1 + l) 0) (f.mul (coefficient f r c l) (bit_xor (get_or s 0 0) d)))
      → (l : ℕ) → l < 32 → get_or t l 0 ≡ get_or (remainder f r c (xs ++ d ∷ [])) l 0
  remainder_more s t d hd hc hl told next l h =
      let k = bit_xor (get_or (remainder f r c xs) 0 0) d in
      let g = coefficient f r c l in
      next l h ∙ ap₂ (λ a b. bit_xor a (f.mul g (bit_xor b d))) (all (1 + l) (cases_lt (1 + l) 32)) (told 0 (omega arith))
      ∙ ap (bit_xor (get_or (remainder f r c xs) (1 + l) 0)) (rule.mul_comm g k (bytes_generator f rule r c l) (xor_lt 8 (get_or (remainder f r c xs) 0 0) d (bytes_remainder 0) hd))
      ∙ sym (get_or-remainder_push d l hd)
    where
      all : (i : ℕ) → (i < 32) ⊎ (32 ≤ i) → get_or s i 0 ≡ get_or (remainder f r c xs) i 0
      all i (inl m) = told i m
      all i (inr m) = get_or_past s i 0 (omega arith) ∙ sym (get_or_past (remainder f r c xs) i 0 (omega (arith, length-remainder f r c xs)))

  -- data and their remainder are a code word
  pub remainder_code_word : CodeWord f r c (xs ++ remainder f r c xs)
  unfolding remainder syndrome value
  remainder_code_word j h =
      let gs = generator_of f r c in
      let x = root f r j in
      let hx = power_small f rule (r + j) in
      value_from-append f 0 xs (divided f gs (replicate c 0) xs) x
      ∙ divided_zero f rule gs (bytes_generator f rule r c) x hx (generator_zero f rule r c j h) 0 (replicate c 0) xs (omega arith) (bytes_zeros c) hs
      (length-replicate c 0 ∙ sym (length_generator f r c)) (value_from-zeros f rule c x hx)

-- check bytes that make a code word of the data
pub record Completed (f : ByteField) (r c : ℕ) (xs : List ℕ) : Type 0 where
  pub bytes : List ℕ
  pub count : length bytes ≡ c
  pub small : Bytes bytes
  pub code : CodeWord f r c (xs ++ bytes)

-- whatever the data, there are check bytes
pub encoded_exists : (f : ByteField) → FieldRule f → (r c : ℕ) (xs : List ℕ) → Bytes xs → Completed f r c xs
encoded_exists f rule r c xs hs = record { bytes = remainder f r c xs; count = length-remainder f r c xs; small = bytes_remainder f rule r c xs hs; code = remainder_code_word f rule r c xs hs }

-- lanes that hold the remainder begin with it
pub take-remainder : (f : ByteField) (r c : ℕ) (xs s : List ℕ) → c ≤ length s → ((l : ℕ) → l < length s → get_or s l 0 ≡ get_or (remainder f r c xs) l 0)
    → take c s ≡ remainder f r c xs
take-remainder f r c xs s h each =
    let long = length-take-le c s h in
    ext_get_or 0 (take c s) (remainder f r c xs) (long ∙ sym (length-remainder f r c xs)) (λ i l. get_or-take c s i 0 (omega arith) ∙ each i (omega arith))
