-- The body at the front of a buffer.
use Rattle.std.specs.Prelude.{◌≡◌, ℕ, suc, ◌+◌, ◌-◌, ◌<◌, ◌≤◌, List, [], ◌∷◌, ◌++◌, length, take, drop, replicate, slice_set}
use Rattle.std.proofs.Common.{sym, ap, ◌∙◌, append_assoc, arith, length-append}
use Rattle.std.proofs.lemmas.List.{drop_at, drop-replicate, take_at, set_at, length-replicate}
use Rattle.stack.specs.Buffers.{zeros, padded}

pub length-padded : (n : ℕ) (xs : List ℕ) → length xs ≤ n → length (padded n xs) ≡ n
length-padded n xs h = simp (length-append, length-replicate) (omega arith)

pub take-padded : (n k : ℕ) (xs b : List ℕ) → b ≡ padded n xs → length xs ≡ k → take k b ≡ xs
take-padded n k xs b e h = ap (take k) e ∙ take_at xs (replicate (n - length xs) 0) k h

-- what clearing leaves, at a type with one default
pub cleared : {A : Type 0} {v : A} (n : ℕ) (xs : List A) → ((blank : A) × (blank ≡ v) × (xs ≡ replicate n blank)) → xs ≡ replicate n v
cleared n xs (blank, is, filled) = filled ∙ ap (λ x. replicate n x) is

pub length-zeros : (n : ℕ) (b : List ℕ) → b ≡ zeros n → length b ≡ n
length-zeros n b e = ap length e ∙ length-replicate n 0

-- a write right behind the body
pub set-padded : (n m v : ℕ) (xs : List ℕ) → length xs ≡ n → n < m → slice_set (padded m xs) n v ≡ padded m (xs ++ v ∷ [])
set-padded n m v xs h l =
    let e : m - length xs ≡ suc (m - (n + 1)) = omega arith in
    let f : m - length (xs ++ v ∷ []) ≡ m - (n + 1) = simp length-append (omega arith) in
    ap (λ k. slice_set (xs ++ replicate k 0) n v) e ∙ set_at xs 0 (replicate (m - (n + 1)) 0) v n h
    ∙ sym (append_assoc xs (v ∷ []) (replicate (m - length (xs ++ v ∷ [])) 0) ∙ ap (λ k. xs ++ v ∷ replicate k 0) f)

-- another body of the same length written over it
pub change_padded : (n k : ℕ) (xs ys b : List ℕ) → b ≡ padded n xs → length xs ≡ k → length ys ≡ k → ys ++ drop k b ≡ padded n ys
change_padded n k xs ys b e h l =
    let same : n - length xs ≡ n - length ys = omega arith in
    ap (λ x. ys ++ drop k x) e ∙ ap (λ z. ys ++ z) (drop_at xs (replicate (n - length xs) 0) k h) ∙ ap (λ m. ys ++ replicate m 0) same

-- a body written to the front of a buffer of zeros
pub write_zeros : (n k : ℕ) (ys b : List ℕ) → b ≡ zeros n → length ys ≡ k → ys ++ drop k b ≡ padded n ys
write_zeros n k ys b e h = ap (λ x. ys ++ drop k x) e ∙ ap (λ z. ys ++ z) (drop-replicate k n 0) ∙ ap (λ m. ys ++ replicate (n - m) 0) (sym h)
