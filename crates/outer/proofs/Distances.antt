-- The distance of two words.
use Rattle.std.proofs.Common.{◌≡◌, ℕ, suc, ◌+◌, ◌<◌, ◌≤◌, Bool, true, false, cond, not, eqb, List, [], ◌∷◌, ◌++◌, length, get_or, filter, sym, refl, ◌∙◌, ap₂, arith}
use native.Mathlib.Decide.{ℕ_discrete}
use Rattle.std.specs.List.{range_with_len}
use Rattle.std.proofs.lemmas.Bool.{eq-eqb, ne_eqb}
use Rattle.outer.specs.Words.{distance}

-- 0 or 1, whether two numbers are equal
unfoldable differ : ℕ → ℕ → ℕ
differ x y = cond (eqb x y) 0 1

differ_same : (x y : ℕ) → x ≡ y → differ x y ≡ 0
unfolding differ
differ_same x y e = rw (eq-eqb x y e)

differ_other : (x y : ℕ) → ¬ (x ≡ y) → differ x y ≡ 1
unfolding differ
differ_other x y e = rw (ne_eqb x y e)

differ_small : (x y : ℕ) → differ x y ≤ 1
differ_small x y = go (ℕ_discrete x y)
  where
    go : Dec (x ≡ y) → differ x y ≤ 1
    go (yes e) = omega (arith, differ_same x y e)
    go (no e) = omega (arith, differ_other x y e)

differ_sym : (x y : ℕ) → differ x y ≡ differ y x
differ_sym x y = go (ℕ_discrete x y)
  where
    go : Dec (x ≡ y) → differ x y ≡ differ y x
    go (yes e) = differ_same x y e ∙ sym (differ_same y x (sym e))
    go (no e) = differ_other x y e ∙ sym (differ_other y x (λ d. e (sym d)))

differ_triangle : (x y z : ℕ) → differ x z ≤ differ x y + differ y z
differ_triangle x y z = go (ℕ_discrete x y) (ℕ_discrete y z)
  where
    go : Dec (x ≡ y) → Dec (y ≡ z) → differ x z ≤ differ x y + differ y z
    go (yes d) (yes e) = omega (arith, differ_same x z (d ∙ e))
    go (yes d) (no e) = omega (arith, differ_small x z, differ_other y z e)
    go (no d) e = omega (arith, differ_small x z, differ_other x y d)

distance_cons : (x y : ℕ) (xs ys : List ℕ) → distance (x ∷ xs) (y ∷ ys) ≡ differ x y + distance xs ys
unfolding distance differ
distance_cons x y xs ys = refl

pub distance_sym : (xs ys : List ℕ) → distance xs ys ≡ distance ys xs
unfolding distance differ
distance_sym [] [] = refl
distance_sym [] (y ∷ ys) = refl
distance_sym (x ∷ xs) [] = refl
distance_sym (x ∷ xs) (y ∷ ys) = ap₂ ◌+◌ (differ_sym x y) (distance_sym xs ys)

pub distance_triangle : (xs ys zs : List ℕ) → length xs ≡ length ys → distance xs zs ≤ distance xs ys + distance ys zs
unfolding distance
distance_triangle [] ys zs h = omega arith
distance_triangle (x ∷ xs) [] zs h = absurd (omega arith)
distance_triangle (x ∷ xs) (y ∷ ys) [] h = omega arith
distance_triangle (x ∷ xs) (y ∷ ys) (z ∷ zs) h =
    omega (arith, differ_triangle x y z, distance_triangle xs ys zs (omega arith), distance_cons x z xs zs, distance_cons x y xs ys, distance_cons y z ys zs)

pub distance_small : (xs ys : List ℕ) → distance xs ys ≤ length xs
unfolding distance
distance_small [] ys = omega arith
distance_small (x ∷ xs) [] = omega arith
distance_small (x ∷ xs) (y ∷ ys) = omega (arith, distance_cons x y xs ys, differ_small x y, distance_small xs ys)

pub distance_behind : (xs ys zs : List ℕ) → distance (xs ++ ys) (xs ++ zs) ≡ distance ys zs
distance_behind [] ys zs = refl
distance_behind (x ∷ xs) ys zs = distance_cons x x (xs ++ ys) (xs ++ zs) ∙ omega (arith, differ_same x x refl, distance_behind xs ys zs)

pub distance_itself : (xs : List ℕ) → distance xs xs ≡ 0
unfolding distance
distance_itself [] = refl
distance_itself (x ∷ xs) = distance_cons x x xs xs ∙ omega (arith, differ_same x x refl, distance_itself xs)

-- the places at which the words differ, counted
pub distance_kept : (xs ys : List ℕ) (a : ℕ) (t : ℕ → Bool) → length xs ≡ length ys
    → ((k p : ℕ) → k < length xs → a + k ≡ p → t p ≡ not (eqb (get_or xs k 0) (get_or ys k 0))) → distance xs ys ≡ length (filter t (range_with_len a (length xs)))
unfolding distance
distance_kept [] ys a t h d = refl
distance_kept (x ∷ xs) [] a t h d = absurd (omega arith)
distance_kept (x ∷ xs) (y ∷ ys) a t h d =
    go (eqb x y) (t a) (d 0 a (omega arith) (omega arith)) (distance_kept xs ys (a + 1) t (omega arith) (λ k p l e. d (suc k) p (omega arith) (omega arith)))
  where
    go : (b c : Bool) → c ≡ not b → distance xs ys ≡ length (filter t (range_with_len (a + 1) (length xs)))
        → cond b 0 1 + distance xs ys ≡ length (cond c (a ∷ filter t (range_with_len (a + 1) (length xs))) (filter t (range_with_len (a + 1) (length xs))))
    go true c e ih = rw e (omega arith)
    go false c e ih = rw e (omega arith)
