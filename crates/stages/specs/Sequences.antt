-- The sequence byte after byte, and a body with the sequence added.
use Rattle.std.specs.Prelude.{◌≡◌, ℕ, zero, suc, ◌+◌, ◌-◌, ◌*◌, ◌/◌, ◌%◌, ◌<◌, ◌≤◌, Bool, List, [], ◌∷◌, ◌++◌, length, take, drop, bit_xor, slice_index, slice_set}
use Rattle.std.proofs.Math.Path.{refl, ap, ap₂}
use Rattle.std.proofs.Common.{sym, ◌∙◌, add-mul, add-zero, le_refl, mul-add, mul-le-mul, mul_comm, suc-add, zero-add, add-one, length-drop}
use Rattle.std.proofs.Math.Bool.{xor}
use mathlib.Core.List.{append_assoc, append-nil}
use borrow.Rule.Slice.PartMut.{put_mid}
use Rattle.std.proofs.Math.Nat.{div-add-mod}
use Rattle.std.proofs.lemmas.Nat.{mod-mul-add}
use Rattle.std.proofs.lemmas.Slice.{take-put_mid, drop-put_mid}
use native.Mathlib.Omega.{arith}
use Rattle.std.specs.Int.Bits.{xor_assoc, xor_lt, xor_self, xor_zero_r}
use Rattle.std.proofs.lemmas.List.{drop_all, drop_more, drop-drop, drop-set-lt, length-take-le, take_all, take-append-drop, take_more_set}
use Rattle.stages.specs.Sequence.{after, byte_of, continued, feedback, key, key_at, key_from, keyed, last_bits, loaded, randomised, stepped, sums}
use Rattle.stages.specs.Registers.{sums_lt}

-- n steps after m steps
after_add : (m n : ℕ) (reg : List Bool) → after (m + n) reg ≡ after n (after m reg)
unfolding after
after_add zero n reg = rw (zero-add n)
after_add (suc m) n reg = rw (suc-add m n) (after_add m n (stepped reg))

pub after_more : (j : ℕ) (reg : List Bool) → after 8 (after (8 * j) reg) ≡ after (8 * (j + 1)) reg
after_more j reg = sym (ap (λ n. after n reg) (mul-add 8 j 1) ∙ after_add (8 * j) 8 reg)

key_lt : (seed j : ℕ) → key seed j < 256
unfolding key key_from
key_lt seed j = sums_lt (after (8 * j) (loaded seed))

module _ (k : ℕ → ℕ) where
  -- one byte more of a body to which the sequence is added in place
  pub keyed_more : (xs : List ℕ) (i y : ℕ) → i < length xs → y ≡ k i
      → take (i + 1) (slice_set xs i (bit_xor (slice_index xs i) y)) ++ keyed k (i + 1) (drop (i + 1) (slice_set xs i (bit_xor (slice_index xs i) y)))
      ≡ take i xs ++ keyed k i (drop i xs)
  unfolding keyed
  keyed_more xs i y h e =
      let v = bit_xor (slice_index xs i) y in
      let rest = drop (i + 1) xs in
      ap₂ (λ a b. a ++ keyed k (i + 1) b) (take_more_set xs i v h) (drop-set-lt (i + 1) xs i v (omega arith))
      ∙ append_assoc (take i xs) (v ∷ []) (keyed k (i + 1) rest)
      ∙ ap (λ t. take i xs ++ t)
      (ap₂ (λ a n. bit_xor (slice_index xs i) a ∷ keyed k n rest) e (add-one i) ∙ ap (keyed k i) (sym (drop_more xs i 0 h)))

  pub keyed_all : (xs : List ℕ) (i : ℕ) → length xs ≤ i → take i xs ++ keyed k i (drop i xs) ≡ xs
  unfolding keyed
  keyed_all xs i h = ap₂ (λ a b. a ++ keyed k i b) (take_all i xs h) (drop_all i xs h) ∙ append-nil xs

  length-keyed : (i : ℕ) (xs : List ℕ) → length (keyed k i xs) ≡ length xs
  unfolding keyed
  length-keyed i [] = refl
  length-keyed i (x ∷ xs) = ap suc (length-keyed (suc i) xs)

  -- a body in two parts
  keyed-append : (i : ℕ) (xs ys : List ℕ) → keyed k i (xs ++ ys) ≡ keyed k i xs ++ keyed k (i + length xs) ys
  unfolding keyed
  keyed-append i [] ys = ap (λ n. keyed k n ys) (sym (add-zero i))
  keyed-append i (x ∷ xs) ys = ap (λ l. bit_xor x (k i) ∷ l) (keyed-append (suc i) xs ys ∙ ap (λ n. keyed k (suc i) xs ++ keyed k n ys) (omega arith))

  -- another sequence that is the same from here on
  keyed-moved : (h : ℕ → ℕ) (i m : ℕ) (xs : List ℕ) → ((j : ℕ) → j < length xs → k (i + j) ≡ h (m + j)) → keyed k i xs ≡ keyed h m xs
  unfolding keyed
  keyed-moved h i m [] e = refl
  keyed-moved h i m (x ∷ xs) e =
      ap₂ (λ b l. bit_xor x b ∷ l) (ap k (sym (add-zero i)) ∙ e 0 (omega arith) ∙ ap h (add-zero m))
      (keyed-moved h (suc i) (suc m) xs (λ j b. ap k (omega arith) ∙ e (suc j) (omega arith) ∙ ap h (omega arith)))

  keyed_lt : ((i : ℕ) → k i < 256) → (i : ℕ) (xs : List ℕ) → ((j : ℕ) → slice_index xs j < 256) → (j : ℕ) → slice_index (keyed k i xs) j < 256
  unfolding keyed
  keyed_lt small i [] h j = omega arith
  keyed_lt small i (x ∷ xs) h zero = xor_lt 8 x (k i) (h 0) (small i)
  keyed_lt small i (x ∷ xs) h (suc j) = keyed_lt small (suc i) xs (λ n. h (suc n)) j

  keyed_twice : (i : ℕ) (xs : List ℕ) → keyed k i (keyed k i xs) ≡ xs
  unfolding keyed
  keyed_twice i [] = refl
  keyed_twice i (x ∷ xs) = ap₂ ◌∷◌ (xor_assoc x (k i) (k i) ∙ ap (bit_xor x) (xor_self (k i)) ∙ xor_zero_r x) (keyed_twice (suc i) xs)

module _ (seed unit : ℕ) where
  pub length_randomised : (xs : List ℕ) → length (randomised seed unit xs) ≡ length xs
  unfolding randomised
  length_randomised xs = length-keyed (key_at seed unit) 0 xs

  -- bytes stay bytes
  pub randomised_lt : (xs : List ℕ) → ((k : ℕ) → slice_index xs k < 256) → (k : ℕ) → slice_index (randomised seed unit xs) k < 256
  unfolding randomised key_at
  randomised_lt xs h k = keyed_lt (key_at seed unit) (λ i. key_lt seed (i % unit)) 0 xs h k

  -- added twice, the sequence leaves the body as it was
  pub randomised_twice : (xs : List ℕ) → randomised seed unit (randomised seed unit xs) ≡ xs
  unfolding randomised
  randomised_twice xs = keyed_twice (key_at seed unit) 0 xs

-- where a unit begins the sequence begins
keyed_unit : (seed unit u : ℕ) (part : List ℕ) → length part ≡ unit → keyed (key_at seed unit) (u * unit) part ≡ keyed (key seed) 0 part
unfolding key_at
keyed_unit seed unit u part h =
    keyed-moved (key_at seed unit) (key seed) (u * unit) 0 part (λ j b. ap (key seed) (mod-mul-add u unit j (omega arith) ∙ sym (zero-add j)))

-- one unit more of a body to which the sequence is added in place
pub unit_more : (seed unit u : ℕ) (xs v : List ℕ) → (u + 1) * unit ≤ length xs → v ≡ keyed (key seed) 0 (take ((u + 1) * unit - u * unit) (drop (u * unit) xs))
    → take ((u + 1) * unit) (put_mid (u * unit) ((u + 1) * unit - u * unit) xs v)
    ++ keyed (key_at seed unit) ((u + 1) * unit) (drop ((u + 1) * unit) (put_mid (u * unit) ((u + 1) * unit - u * unit) xs v))
    ≡ take (u * unit) xs ++ keyed (key_at seed unit) (u * unit) (drop (u * unit) xs)
unit_more seed unit u xs v room is =
    let k = key_at seed unit in
    let a = u * unit in
    let e = (u + 1) * unit in
    let part = take (e - a) (drop a xs) in
    let end : e ≡ a + unit = omega (arith, add-mul u 1 unit) in
    let long : length part ≡ unit = omega (arith, length-take-le (e - a) (drop a xs) (omega (arith, length-drop a xs))) in
    let written : length v ≡ unit = ap length is ∙ length-keyed (key seed) 0 part ∙ long in
    ap₂ (λ t d. t ++ keyed k e d) (take-put_mid a (e - a) xs v e (omega arith) (omega arith)) (drop-put_mid a (e - a) xs v e (omega arith) (omega arith) (omega arith))
    ∙ append_assoc (take a xs) v (keyed k e (drop e xs))
    ∙ ap (λ t. take a xs ++ t)
    (ap₂ (λ t n. t ++ keyed k n (drop e xs)) (is ∙ sym (keyed_unit seed unit u part long)) (end ∙ ap (λ n. a + n) (sym long))
    ∙ sym (keyed-append k a part (drop e xs))
    ∙ ap (λ t. keyed k a (part ++ t)) (ap (λ n. drop n xs) end ∙ ap (λ n. drop (a + n) xs) (omega arith) ∙ sym (drop-drop (e - a) a xs))
    ∙ ap (keyed k a) (take-append-drop (e - a) (drop a xs)))

-- whole units are the whole body
pub units_all : (n unit u : ℕ) → n % unit ≡ 0 → n / unit ≤ u → n ≤ u * unit
units_all n unit u whole all = omega (arith, div-add-mod n unit, mul-le-mul all (le_refl unit), mul_comm unit (n / unit))

pub unit_end : (n unit u : ℕ) → u < n / unit → (u + 1) * unit ≤ n
unit_end n unit u h = omega (arith, div-add-mod n unit, mul-le-mul h (le_refl unit), mul_comm unit (n / unit))

-- four bytes of zeros
pub randomised-zeros : randomised 0x4A80 4 (0 ∷ 0 ∷ 0 ∷ 0 ∷ []) ≡ 0x03 ∷ 0xF6 ∷ 0x08 ∷ 0x34 ∷ []
unfolding randomised keyed key_at key key_from loaded last_bits after sums stepped feedback byte_of continued xor
randomised-zeros = refl
