-- Marks written one after another, the next over one that is not kept.
use Rattle.std.proofs.Common.{◌≡◌, ℕ, ◌+◌, ◌/◌, ◌%◌, ◌^◌, ◌<◌, Bool, true, false, cond, List, [], ◌∷◌, ◌++◌, length, get_or, map, take, refl, ◌∙◌, arith}
use Rattle.std.proofs.lemmas.List.{append-nil, append_assoc}
use Rattle.std.specs.List.{flat_map}
use Rattle.convolution.specs.declared.rate.Rate.{Rate}
use Rattle.convolution.specs.declared.runs.Row.{Row}
use Rattle.convolution.specs.declared.rate.Rate.TheVariants.{Half, TwoThirds, ThreeQuarters, Third}
use Rattle.convolution.specs.Code.{bit, keeps, kept_from, step_marks}
use Rattle.convolution.specs.Encoding.{kept_bit, picked, MarkBits, KeptBits}

-- what one row adds in step i
abbrev pub kept_of : ℕ → Row → List ℕ
kept_of i r = take (r.kept / 2 ^ i % 2) (r.marks / 2 ^ i % 2 ∷ [])

-- three rows, one after another
pub picked_rows : (rows : List Row) (i : ℕ) → length rows ≡ 3 → flat_map (kept_of i) rows ≡ picked (map (λ r. r.marks) rows) (map (λ r. r.kept) rows) i
unfolding picked
picked_rows [] i h = absurd (omega arith)
picked_rows (a ∷ []) i h = absurd (omega arith)
picked_rows (a ∷ b ∷ []) i h = absurd (omega arith)
picked_rows (a ∷ b ∷ c ∷ []) i h = simp (append_assoc, append-nil)
picked_rows (a ∷ b ∷ c ∷ d ∷ rows) i h = absurd (omega arith)

two : (p q : Bool) (m n o : ℕ) → take (bit p) (m ∷ []) ++ take (bit q) (n ∷ []) ++ take 0 (o ∷ []) ≡ cond p (m ∷ cond q (n ∷ []) []) (cond q (n ∷ []) [])
two true true m n o = refl
two true false m n o = refl
two false true m n o = refl
two false false m n o = refl

two_picked : (p q : Bool) (m n : ℕ) (ms ks : List ℕ) (i : ℕ) → get_or ks 0 0 / 2 ^ i % 2 ≡ bit p → get_or ks 1 0 / 2 ^ i % 2 ≡ bit q → get_or ks 2 0 / 2 ^ i % 2 ≡ 0
    → get_or ms 0 0 / 2 ^ i % 2 ≡ m → get_or ms 1 0 / 2 ^ i % 2 ≡ n → picked ms ks i ≡ cond p (m ∷ cond q (n ∷ []) []) (cond q (n ∷ []) [])
unfolding picked
two_picked p q m n ms ks i a b c d e =
    (λ j. take (a j) (d j ∷ []) ++ take (b j) (e j ∷ []) ++ take (c j) (get_or ms 2 0 / 2 ^ i % 2 ∷ [])) ∙ two p q m n (get_or ms 2 0 / 2 ^ i % 2)

-- the marks that the numbers pick are the step's
pub picked-marks : (rate : Rate) (x p : ℕ) (ms ks : List ℕ) → MarkBits rate x ms → KeptBits rate p ks → (i : ℕ) → i < 8 → picked ms ks i ≡ step_marks rate (p + i) (x / 2 ^ i % 128)
unfolding picked kept_bit step_marks kept_from keeps
picked-marks Half x p ms ks h k i l = two_picked true true _ _ ms ks i (k 0 i (omega arith) l) (k 1 i (omega arith) l) (k 2 i (omega arith) l) (h 0 i (omega arith)) (h 1 i (omega arith))
picked-marks TwoThirds x p ms ks h k i l =
    two_picked (keeps TwoThirds (p + i) 0) true _ _ ms ks i (k 0 i (omega arith) l) (k 1 i (omega arith) l) (k 2 i (omega arith) l) (h 0 i (omega arith)) (h 1 i (omega arith))
picked-marks ThreeQuarters x p ms ks h k i l =
    two_picked (keeps ThreeQuarters (p + i) 0) (keeps ThreeQuarters (p + i) 1) _ _ ms ks i (k 0 i (omega arith) l) (k 1 i (omega arith) l) (k 2 i (omega arith) l) (h 0 i (omega arith)) (h 1 i (omega arith))
picked-marks Third x p ms ks h k i l =
    λ j. take (k 0 i (omega arith) l j) (h 0 i (omega arith) j ∷ []) ++ take (k 1 i (omega arith) l j) (h 1 i (omega arith) j ∷ []) ++ take (k 2 i (omega arith) l j) (h 2 i (omega arith) j ∷ [])
