-- The value of a word at x.
use Rattle.std.proofs.Common.{◌≡◌, ℕ, zero, suc, ◌+◌, ◌<◌, ◌≤◌, List, [], ◌∷◌, ◌++◌, length, get_or, take, replicate, sym, refl, ap, ◌∙◌, arith}
use lib.Bits.{bit_xor, xor_zero_r, xor_lt}
use Rattle.std.proofs.lemmas.List.{take_more}
use Rattle.galois.specs.Bytes.{ByteField, FieldRule}
use Rattle.outer.specs.Lanes.{root}
use Rattle.outer.specs.Words.{value_from, value, syndrome}
use Rattle.outer.specs.Encoder.{plus_multiple}
use Rattle.outer.specs.ByteLists.{Bytes}
use Rattle.outer.proofs.Equations.{mul_zero, zero_mul, more_of_both, more_of_second}

pub value_from-append : (f : ByteField) (v : ℕ) (xs ys : List ℕ) (x : ℕ) → value_from f v (xs ++ ys) x ≡ value_from f (value_from f v xs x) ys x
unfolding value_from
value_from-append f v [] ys x = refl
value_from-append f v (b ∷ bs) ys x = value_from-append f (bit_xor (f.mul v x) b) bs ys x

-- one byte more
pub value_push : (f : ByteField) (xs : List ℕ) (b x : ℕ) → value f (xs ++ b ∷ []) x ≡ bit_xor (f.mul (value f xs x) x) b
unfolding value value_from
value_push f xs b x = value_from-append f 0 xs (b ∷ []) x

-- the syndromes of no byte, and of one byte more
pub syndrome_none : (f : ByteField) (r l : ℕ) → syndrome f r [] l ≡ 0
unfolding syndrome value value_from
syndrome_none f r l = refl

pub syndrome_more : (f : ByteField) (r l : ℕ) (xs : List ℕ) (i : ℕ) → i < length xs
    → syndrome f r (take (i + 1) xs) l ≡ bit_xor (f.mul (syndrome f r (take i xs) l) (root f r l)) (get_or xs i 0)
unfolding syndrome
syndrome_more f r l xs i h = ap (λ w. value f w (root f r l)) (take_more xs i 0 h) ∙ value_push f (take i xs) (get_or xs i 0) (root f r l)

pub length-plus_multiple : (f : ByteField) (k : ℕ) (ts gs : List ℕ) → length (plus_multiple f k ts gs) ≡ length gs
unfolding plus_multiple
length-plus_multiple f k ts [] = refl
length-plus_multiple f k [] (g ∷ gs) = ap suc (length-plus_multiple f k [] gs)
length-plus_multiple f k (t ∷ ts) (g ∷ gs) = ap suc (length-plus_multiple f k ts gs)

module _ (f : ByteField) (rule : FieldRule f) where
  -- Horner's step stays among the bytes
  pub step_small : (v x b : ℕ) → v < 256 → x < 256 → b < 256 → bit_xor (f.mul v x) b < 256
  step_small v x b hv hx hb = xor_lt 8 (f.mul v x) b (rule.mul_small v x hv hx) hb

  pub value_from-zeros : (n x : ℕ) → x < 256 → value_from f 0 (replicate n 0) x ≡ 0
  unfolding value_from
  value_from-zeros zero x hx = refl
  value_from-zeros (suc n) x hx = ap (λ v. value_from f v (replicate n 0) x) (xor_zero_r (f.mul 0 x) ∙ zero_mul f rule x hx) ∙ value_from-zeros n x hx

  module _ (k : ℕ) (hk : k < 256) where
    pub get_or-plus_multiple : (ts gs : List ℕ) (l : ℕ) → length ts ≤ length gs → get_or (plus_multiple f k ts gs) l 0 ≡ bit_xor (get_or ts l 0) (f.mul k (get_or gs l 0))
    unfolding plus_multiple
    get_or-plus_multiple [] [] l h = sym (mul_zero f rule k hk)
    get_or-plus_multiple (t ∷ ts) [] l h = absurd (omega arith)
    get_or-plus_multiple [] (g ∷ gs) zero h = refl
    get_or-plus_multiple [] (g ∷ gs) (suc l) h = get_or-plus_multiple [] gs l (omega arith)
    get_or-plus_multiple (t ∷ ts) (g ∷ gs) zero h = refl
    get_or-plus_multiple (t ∷ ts) (g ∷ gs) (suc l) h = get_or-plus_multiple ts gs l (omega arith)

    pub bytes_plus_multiple : (ts gs : List ℕ) → Bytes ts → Bytes gs → Bytes (plus_multiple f k ts gs)
    unfolding plus_multiple
    bytes_plus_multiple ts [] ht hg l = omega arith
    bytes_plus_multiple [] (g ∷ gs) ht hg zero = rule.mul_small k g hk (hg 0)
    bytes_plus_multiple [] (g ∷ gs) ht hg (suc l) = bytes_plus_multiple [] gs ht (λ i. hg (suc i)) l
    bytes_plus_multiple (t ∷ ts) (g ∷ gs) ht hg zero = xor_lt 8 t (f.mul k g) (ht 0) (rule.mul_small k g hk (hg 0))
    bytes_plus_multiple (t ∷ ts) (g ∷ gs) ht hg (suc l) = bytes_plus_multiple ts gs (λ i. ht (suc i)) (λ i. hg (suc i)) l

    -- the value of x times a word plus k times another
    pub value-plus_multiple : (u v x : ℕ) (ts gs : List ℕ) → u < 256 → v < 256 → x < 256 → Bytes ts → Bytes gs → suc (length ts) ≡ length gs
        → value_from f (bit_xor u (f.mul k v)) (plus_multiple f k ts gs) x ≡ bit_xor (f.mul (value_from f u ts x) x) (f.mul k (value_from f v gs x))
    unfolding plus_multiple value_from
    value-plus_multiple u v x [] [] hu hv hx ht hg e = absurd (omega arith)
    value-plus_multiple u v x (t ∷ ts) [] hu hv hx ht hg e = absurd (omega arith)
    value-plus_multiple u v x [] (g ∷ []) hu hv hx ht hg e = more_of_second f rule k u v x g hk hu hv hx (hg 0)
    value-plus_multiple u v x [] (g ∷ h ∷ gs) hu hv hx ht hg e = absurd (omega arith)
    value-plus_multiple u v x (t ∷ ts) (g ∷ gs) hu hv hx ht hg e =
        ap (λ w. value_from f w (plus_multiple f k ts gs) x) (more_of_both f rule k u v x g hk hu hv hx (hg 0) t (ht 0))
        ∙ value-plus_multiple (bit_xor (f.mul u x) t) (bit_xor (f.mul v x) g) x ts gs (step_small u x t hu hx (ht 0)) (step_small v x g hv hx (hg 0)) hx (λ i. ht (suc i)) (λ i. hg (suc i))
        (omega arith)
