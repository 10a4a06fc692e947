-- What readings cost: one of them, marks that all are free, and how many marks cost more than 0.
use Rattle.std.specs.Prelude.{◌≡◌, ℕ, zero, suc, ◌+◌, ◌<◌, ◌≤◌, Bool, true, false, cond, List, [], ◌∷◌, ◌++◌, length, take, nat_lt, slice_index, slice_index_or, refl}
use Rattle.std.proofs.Common.{sym, ap, ◌∙◌, add-zero, zero-add, add-suc, suc-add, add_assoc, arith}
use mir.Val.{bool_byte}
use Rattle.std.proofs.lemmas.List.{length-take-le, take_more}
use Rattle.std.proofs.lemmas.Bool.{cond_both}
use Rattle.convolution.specs.Cost.{cost_from}
use Rattle.line.specs.Line.{price_of, dear}

pub price-at : {R : Type 0} (cost : R → ℕ → ℕ) (rs : List R) (i m : ℕ) (d : R) → i < length rs → price_of cost rs i m ≡ cost (slice_index_or rs i d) m
unfolding price_of
price-at cost [] i m d h = absurd (omega arith)
price-at cost (r ∷ rs) zero m d h = refl
price-at cost (r ∷ rs) (suc i) m d h = price-at cost rs i m d (omega arith)

pub price_le : {R : Type 0} (cost : R → ℕ → ℕ) (n : ℕ) → ((r : R) (m : ℕ) → cost r m ≤ n) → (rs : List R) (i m : ℕ) → price_of cost rs i m ≤ n
unfolding price_of
price_le cost n h [] i m = omega arith
price_le cost n h (r ∷ rs) zero m = h r m
price_le cost n h (r ∷ rs) (suc i) m = price_le cost n h rs i m

-- 1 for a mark that costs more than 0
abbrev pub dear_one : ℕ → ℕ
dear_one p = cond (nat_lt 0 p) 1 0

dear_one_le : (p : ℕ) → dear_one p ≤ 1
dear_one_le p = cond_both (nat_lt 0 p) 1 0 (λ v. v ≤ 1) (λ _. omega arith) (λ _. omega arith)

pub dear-append : (price : ℕ → ℕ → ℕ) (i : ℕ) (xs ys : List ℕ) → dear price i (xs ++ ys) ≡ dear price i xs + dear price (i + length xs) ys
unfolding dear
dear-append price i [] ys = rw (add-zero, zero-add)
dear-append price i (x ∷ xs) ys = rw (dear-append price (suc i) xs ys, add-suc i (length xs), ← suc-add i (length xs)) (sym (add_assoc (dear_one (price i x)) (dear price (suc i) xs) (dear price (suc i + length xs) ys)))

pub dear_le : (price : ℕ → ℕ → ℕ) (i : ℕ) (ms : List ℕ) → dear price i ms ≤ length ms
unfolding dear
dear_le price i [] = omega arith
dear_le price i (m ∷ ms) = omega (arith, dear_one_le (price i m), dear_le price (suc i) ms)

-- one mark more
pub dear_more : (price : ℕ → ℕ → ℕ) (i : ℕ) (ms : List ℕ) (k n p : ℕ) → k < length ms → p ≡ price (i + k) (slice_index ms k) → n ≡ dear price i (take k ms) → n + bool_byte (nat_lt 0 p) ≡ dear price i (take (k + 1) ms)
unfolding dear
dear_more price i ms k n p h e c =
    let one : bool_byte (nat_lt 0 p) ≡ dear_one (price (i + k) (slice_index ms k)) = counted (nat_lt 0 p) ∙ ap dear_one e in
    let at : dear price (i + length (take k ms)) (slice_index ms k ∷ []) ≡ dear_one (price (i + k) (slice_index ms k)) + 0 = ap (λ j. dear_one (price (i + j) (slice_index ms k)) + 0) (length-take-le k ms (omega arith)) in
    let all : dear price i (take (k + 1) ms) ≡ dear price i (take k ms) + dear price (i + length (take k ms)) (slice_index ms k ∷ []) = ap (dear price i) (take_more ms k 0 h) ∙ dear-append price i (take k ms) (slice_index ms k ∷ []) in
    omega arith
  where
    counted : (b : Bool) → bool_byte b ≡ cond b 1 0
    counted true = refl
    counted false = refl

-- the marks of two runs
pub dear_join : (price : ℕ → ℕ → ℕ) (xs ys zs : List ℕ) (i n r : ℕ) → i ≡ length xs → n ≡ dear price 0 xs → r ≡ dear price i ys → xs ++ ys ≡ zs → n + r ≡ dear price 0 zs
dear_join price xs ys zs i n r at p q e =
    let second : dear price i ys ≡ dear price (0 + length xs) ys = ap (λ j. dear price j ys) (at ∙ sym (zero-add (length xs))) in
    let all : dear price 0 zs ≡ dear price 0 xs + dear price (0 + length xs) ys = ap (dear price 0) (sym e) ∙ dear-append price 0 xs ys in
    omega arith

pub bool_le : (b : Bool) → bool_byte b ≤ 1
bool_le true = omega arith
bool_le false = omega arith

-- the marks from reading i on cost nothing, each of them
abbrev pub Free : (ℕ → ℕ → ℕ) → ℕ → List ℕ → Type 0
Free price i ms = (k : ℕ) → k < length ms → price (i + k) (slice_index ms k) ≡ 0

free_head : (price : ℕ → ℕ → ℕ) (i m : ℕ) (ms : List ℕ) → Free price i (m ∷ ms) → price i m ≡ 0
free_head price i m ms h = ap (λ j. price j m) (sym (add-zero i)) ∙ h 0 (omega arith)

free_tail : (price : ℕ → ℕ → ℕ) (i m : ℕ) (ms : List ℕ) → Free price i (m ∷ ms) → Free price (suc i) ms
free_tail price i m ms h k l = let e : suc i + k ≡ i + suc k = omega arith in ap (λ j. price j (slice_index ms k)) e ∙ h (suc k) (omega arith)

pub cost_free : (price : ℕ → ℕ → ℕ) (i : ℕ) (ms : List ℕ) → Free price i ms → cost_from price i ms ≡ 0
unfolding cost_from
cost_free price i [] h = refl
cost_free price i (m ∷ ms) h = omega (arith, free_head price i m ms h, cost_free price (suc i) ms (free_tail price i m ms h))

pub dear-free : (price : ℕ → ℕ → ℕ) (i : ℕ) (ms : List ℕ) → Free price i ms → dear price i ms ≡ 0
unfolding dear
dear-free price i [] h = refl
dear-free price i (m ∷ ms) h = ap (λ p. dear_one p + dear price (suc i) ms) (free_head price i m ms h) ∙ omega (arith, dear-free price (suc i) ms (free_tail price i m ms h))

pub free_cost : (price : ℕ → ℕ → ℕ) (i : ℕ) (ms : List ℕ) → cost_from price i ms ≡ 0 → Free price i ms
unfolding cost_from
free_cost price i [] e k l = absurd (omega arith)
free_cost price i (m ∷ ms) e zero l = ap (λ j. price j m) (add-zero i) ∙ omega arith
free_cost price i (m ∷ ms) e (suc k) l =
    let f : i + suc k ≡ suc i + k = omega arith in
    ap (λ j. price j (slice_index ms k)) f ∙ free_cost price (suc i) ms (omega arith) k (omega arith)
