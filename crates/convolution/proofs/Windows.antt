-- Words as numbers: the windows of a longer word from the six newest bits and the bits that follow.
use Rattle.std.proofs.Common.{◌≡◌, ℕ, zero, suc, ◌+◌, ◌*◌, ◌/◌, ◌%◌, ◌^◌, ◌<◌, Bool, true, false, eqb, [], ◌∷◌, ◌++◌, length, get_or, drop, sym, refl, ap, ◌∙◌, subst, ap₂, add-zero, mod-eq_of_lt, mul_assoc, pow-suc, div-one, one-add, arith}
use native.Mathlib.Nat.{pow-succ', zero-div}
use mir.Val.{bool_byte}
use Rattle.std.proofs.lemmas.Nat.{shr-shr}
use Rattle.std.specs.Int.{reverse_bits_onto}
use Rattle.std.proofs.lemmas.Bool.{eqb-true, eqb-false}
use Rattle.std.proofs.lemmas.List.{length-append, length-drop, drop-drop, drop-append-le, get_or-drop, get_or_append_left}
use Rattle.convolution.specs.Code.{Word, bit, bits, zeros, seven, window}
use Rattle.convolution.specs.Encoding.{value, newest}

pub bit_below : (b : Bool) → bit b < 2
bit_below true = omega arith
bit_below false = omega arith

-- the oldest bit and the rest
value-front : (y : Word) → value y ≡ bit (get_or y 0 false) + 2 * value (drop 1 y)
unfolding value
value-front [] = refl
value-front (b ∷ y) = refl

value-at : (y : Word) (t s : ℕ) → t + 1 ≡ s → value (drop t y) ≡ bit (get_or y t false) + 2 * value (drop s y)
value-at y t s e =
    value-front (drop t y)
    ∙ ap₂ (λ (b : Bool) (z : Word). bit b + 2 * value z) (get_or-drop t y 0 false ∙ ap (λ (k : ℕ). get_or y k false) (add-zero t)) (drop-drop 1 t y ∙ ap (λ (k : ℕ). drop k y) e)

value-drop : (t : ℕ) (y : Word) → value (drop t y) ≡ value y / 2 ^ t
unfolding value
value-drop zero y = sym (div-one (value y))
value-drop (suc t) [] = sym (zero-div (2 ^ suc t))
value-drop (suc t) (b ∷ y) =
    let h : value y ≡ (bit b + 2 * value y) / 2 = omega (arith, bit_below b) in
    value-drop t y ∙ ap (λ (n : ℕ). n / 2 ^ t) h ∙ shr-shr (bit b + 2 * value y) 1 t ∙ ap (λ (k : ℕ). (bit b + 2 * value y) / 2 ^ k) (one-add t)

value_below : (y : Word) → value y < 2 ^ length y
unfolding value
value_below [] = omega arith
value_below (b ∷ y) = omega (arith, bit_below b, value_below y, pow-suc 2 (length y))

value-append : (y z : Word) → value (y ++ z) ≡ value y + 2 ^ length y * value z
unfolding value
value-append [] z = omega arith
value-append (b ∷ y) z =
    let e : 2 ^ suc (length y) * value z ≡ 2 * (2 ^ length y * value z) = ap (λ (n : ℕ). n * value z) (pow-succ' 2 (length y)) ∙ mul_assoc 2 (2 ^ length y) (value z) in
    omega (arith, value-append y z)

pub value_one : (b : Bool) → value (b ∷ []) ≡ bool_byte b
unfolding value
value_one true = refl
value_one false = refl

pub digit : (n : ℕ) → bit (eqb (n % 2) 1) ≡ n % 2
digit n = go (eqb (n % 2) 1) refl
  where
    go : (b : Bool) → eqb (n % 2) 1 ≡ b → bit b ≡ n % 2
    go true e = sym (eqb-true (n % 2) 1 e)
    go false e = let k : n % 2 ≡ 1 → ⊥ = eqb-false (n % 2) 1 e in omega arith

eight_digits : (a b c d e f g h : ℕ)
    → a + 2 * (b + 2 * (c + 2 * (d + 2 * (e + 2 * (f + 2 * (g + 2 * (h + 2 * 0))))))) ≡ (((((((0 * 2 + h) * 2 + g) * 2 + f) * 2 + e) * 2 + d) * 2 + c) * 2 + b) * 2 + a
eight_digits a b c d e f g h = omega arith

-- a byte's bits, highest first, as a number with the oldest lowest
pub value-bits : (n : ℕ) → value (bits n) ≡ reverse_bits_onto 8 n 0
unfolding value bits reverse_bits_onto
value-bits n =
    let q : (k : ℕ) → n / 2 ^ k / 2 ≡ n / 2 ^ (k + 1) = λ k. shr-shr n k 1 in
    let halves : (a b : ℕ) → a ≡ b → a / 2 ≡ b / 2 = λ a b e. ap (λ (x : ℕ). x / 2) e in
    let q2 : n / 2 / 2 ≡ n / 4 = q 1 in
    let q3 : n / 2 / 2 / 2 ≡ n / 8 = halves _ _ q2 ∙ q 2 in
    let q4 : n / 2 / 2 / 2 / 2 ≡ n / 16 = halves _ _ q3 ∙ q 3 in
    let q5 : n / 2 / 2 / 2 / 2 / 2 ≡ n / 32 = halves _ _ q4 ∙ q 4 in
    let q6 : n / 2 / 2 / 2 / 2 / 2 / 2 ≡ n / 64 = halves _ _ q5 ∙ q 5 in
    let q7 : n / 2 / 2 / 2 / 2 / 2 / 2 / 2 ≡ n / 128 = halves _ _ q6 ∙ q 6 in
    (λ i. digit (n / 128) i + 2 * (digit (n / 64) i + 2 * (digit (n / 32) i + 2 * (digit (n / 16) i + 2 * (digit (n / 8) i + 2 * (digit (n / 4) i + 2 * (digit (n / 2) i + 2 * (digit n i + 2 * 0))))))))
    ∙ eight_digits (n / 128 % 2) (n / 64 % 2) (n / 32 % 2) (n / 16 % 2) (n / 8 % 2) (n / 4 % 2) (n / 2 % 2) (n % 2)
    ∙ sym (λ i. (((((((0 * 2 + n % 2) * 2 + n / 2 % 2) * 2 + q2 i % 2) * 2 + q3 i % 2) * 2 + q4 i % 2) * 2 + q5 i % 2) * 2 + q6 i % 2) * 2 + q7 i % 2)

-- the seven bits from a place on are the low ones of what is left there
seven-value : (y : Word) (t : ℕ) → seven y t ≡ value (drop t y) % 128
seven-value y t =
    omega (arith, value-at y t (t + 1) refl, value-at y (t + 1) (t + 2) (omega arith), value-at y (t + 2) (t + 3) (omega arith), value-at y (t + 3) (t + 4) (omega arith), value-at y (t + 4) (t + 5) (omega arith), value-at y (t + 5) (t + 6) (omega arith), value-at y (t + 6) (t + 7) (omega arith), bit_below (get_or y t false), bit_below (get_or y (t + 1) false), bit_below (get_or y (t + 2) false), bit_below (get_or y (t + 3) false), bit_below (get_or y (t + 4) false), bit_below (get_or y (t + 5) false), bit_below (get_or y (t + 6) false))

-- a window does not see the bits after it
pub window-append : (w m : Word) (t : ℕ) → t < length w → window (w ++ m) t ≡ window w t
unfolding window
window-append w m t h =
    omega (arith, at t (omega arith), at (t + 1) (omega arith), at (t + 2) (omega arith), at (t + 3) (omega arith), at (t + 4) (omega arith), at (t + 5) (omega arith), at (t + 6) (omega arith))
  where
    at : (k : ℕ) → k < 6 + length w → bit (get_or (zeros 6 ++ (w ++ m)) k false) ≡ bit (get_or (zeros 6 ++ w) k false)
    at k l = ap bit (get_or_append_left (zeros 6 ++ w) m false k (omega arith))

-- the six newest bits
last : Word → Word
last w = drop (length w) (zeros 6 ++ w)

length_last : (w : Word) → length (last w) ≡ 6
unfolding last
length_last w = length-drop (length w) (zeros 6 ++ w) ∙ omega arith

last_below : (w : Word) → value (last w) < 64
last_below w = subst (λ (n : ℕ). value (last w) < 2 ^ n) (length_last w) (value_below (last w))

newest_last : (w : Word) → newest w ≡ value (last w)
unfolding newest window last
newest_last w = seven-value (zeros 6 ++ w) (length w) ∙ mod-eq_of_lt (omega (arith, last_below w))

pub newest_below : (w : Word) → newest w < 64
newest_below w = omega (arith, newest_last w, last_below w)

-- the six newest bits of w and the bits of m after them
ahead : (w m : Word) → value (drop (length w) (zeros 6 ++ (w ++ m))) ≡ newest w + 64 * value m
unfolding last
ahead w m =
    ap value (drop-append-le (length w) (zeros 6 ++ w) m (omega arith)) ∙ value-append (last w) m
    ∙ ap₂ (λ (v k : ℕ). v + 2 ^ k * value m) (sym (newest_last w)) (length_last w)

pub window_ahead : (w m : Word) (i : ℕ) → window (w ++ m) (length w + i) ≡ (newest w + 64 * value m) / 2 ^ i % 128
unfolding window
window_ahead w m i =
    let y = zeros 6 ++ (w ++ m) in
    seven-value y (length w + i) ∙ ap (λ (n : ℕ). n % 128) (ap value (sym (drop-drop i (length w) y)) ∙ value-drop i (drop (length w) y) ∙ ap (λ (n : ℕ). n / 2 ^ i) (ahead w m))

pub newest_ahead : (w m : Word) → newest (w ++ m) ≡ (newest w + 64 * value m) / 2 ^ length m % 64
unfolding newest
newest_ahead w m =
    let whole : newest (w ++ m) ≡ (newest w + 64 * value m) / 2 ^ length m % 128 = ap (window (w ++ m)) (length-append w m) ∙ window_ahead w m (length m) in
    omega (arith, newest_below (w ++ m), whole)
