-- Arrays that a closure fills element after element.
use Rattle.std.proofs.Common.{◌≡◌, ℕ, zero, suc, ◌+◌, ◌<◌, List, get_or, sym, subst, arith}
use denote.Param.Members.{Mut, Called}
use Rattle.std.specs.Array.{IsFromFnResultFrom, IsFromFnResult, MapsFrom, IsMapOf}

module _ {F B : Type 0} (g : Mut F (ℕ × Unit {0}) B) (f : F) (P : ℕ → B → Type 0) (m : ℕ) (gives : (i : ℕ) (y : B) (q : F) → i < m → Called g f (i, tt) y q → P i y × (q ≡ f)) where
  filled-from : (n i : ℕ) (ys : List B) (d : B) → i + n ≡ m → IsFromFnResultFrom g f ys i n → (k : ℕ) → k < n → P (i + k) (get_or ys (i + k) d)
  filled-from zero i ys d e all k h = absurd (omega arith)
  filled-from (suc n) i ys d e (q, y, here, call, rest) zero h =
      let same : i ≡ i + 0 = omega arith in
      subst (λ j. P j (get_or ys j d)) same (subst (P i) (sym (here.1 d)) (gives i y q (omega arith) call).0)
  filled-from (suc n) i ys d e (q, y, here, call, rest) (suc k) h =
      let next : i + 1 + k ≡ i + suc k = omega arith in
      subst (λ j. P j (get_or ys j d)) next
      (filled-from n (i + 1) ys d (omega arith) (subst (λ p. IsFromFnResultFrom g p ys (i + 1) n) (gives i y q (omega arith) call).1 rest) k (omega arith))

  -- what holds of each result of the closure, which stays as it is, holds of each element
  pub filled : (ys : List B) (d : B) → IsFromFnResult g f ys m → (k : ℕ) → k < m → P k (get_or ys k d)
  filled ys d all k h =
      let same : 0 + k ≡ k = omega arith in
      subst (λ j. P j (get_or ys j d)) same (filled-from m 0 ys d (omega arith) all.each k h)

module _ {F A B : Type 0} (g : Mut F (A × Unit {0}) B) (f : F) (P : A → B → Type 0) (gives : (x : A) (y : B) (q : F) → Called g f (x, tt) y q → P x y × (q ≡ f)) where
  mapped-from : (n i : ℕ) (xs : List A) (ys : List B) (d : A) (e : B) → MapsFrom g f xs ys i n → (k : ℕ) → k < n → P (get_or xs (i + k) d) (get_or ys (i + k) e)
  mapped-from zero i xs ys d e all k h = absurd (omega arith)
  mapped-from (suc n) i xs ys d e (q, x, y, from, to, call, rest) zero h =
      let same : i ≡ i + 0 = omega arith in
      subst (λ j. P (get_or xs j d) (get_or ys j e)) same
      (subst (λ u. P u (get_or ys i e)) (sym (from.1 d)) (subst (P x) (sym (to.1 e)) (gives x y q call).0))
  mapped-from (suc n) i xs ys d e (q, x, y, from, to, call, rest) (suc k) h =
      let next : i + 1 + k ≡ i + suc k = omega arith in
      subst (λ j. P (get_or xs j d) (get_or ys j e)) next
      (mapped-from n (i + 1) xs ys d e (subst (λ p. MapsFrom g p xs ys (i + 1) n) (gives x y q call).1 rest) k (omega arith))

  -- what holds of each argument and its result holds of the elements, place by place
  pub mapped : (n : ℕ) (xs : List A) (ys : List B) (d : A) (e : B) → IsMapOf g f xs ys n → (k : ℕ) → k < n → P (get_or xs k d) (get_or ys k e)
  mapped n xs ys d e all k h =
      let same : 0 + k ≡ k = omega arith in
      subst (λ j. P (get_or xs j d) (get_or ys j e)) same (mapped-from n 0 xs ys d e all.each k h)
