-- The least word in the order of time, the oldest bit first: what it costs, and that it is before all others.
use Rattle.std.proofs.Common.{◌≡◌, ℕ, zero, suc, ◌+◌, ◌-◌, ◌<◌, ◌≤◌, Bool, true, false, ◌⊎◌, List, [], ◌∷◌, ◌++◌, reverse, length, get_or, sym, refl, ap, ◌∙◌, inl, inr, append_assoc, add-zero, add_assoc, add-suc, suc-add, zero-add, arith, length-append}
use mathlib.Core.List.{reverse-cons, reverse-append, reverse-reverse}
use lib.ListN.{length-reverse}
use Rattle.std.proofs.lemmas.List.{get_or_past, get_or_append_left, get_or-append_right, get_or-reverse, get_or-replicate}
use Rattle.std.proofs.lemmas.Bool.{cases_lt}
use Rattle.convolution.specs.declared.rate.Rate.{Rate}
use Rattle.convolution.specs.Code.{Word, bit, zeros, seven, window, step_marks, marks_to, marks, marks_before}
use Rattle.convolution.specs.Cost.{cost_from, step_cost, total_cost, best, least, LowerLast, Least}
use Rattle.convolution.proofs.Order.{Before, best-before}
use Rattle.convolution.proofs.Survivor.{best-length, best_like}
use Rattle.convolution.proofs.Pattern.{length-marks_to}
use Rattle.convolution.proofs.Leaving.{newest, total}

-- the cost of the first n steps, where step t sees the window that begins at place t
cost_to : (ℕ → ℕ → ℕ) → Word → ℕ → ℕ
cost_to cost y zero = 0
cost_to cost y (suc t) = cost_to cost y t + cost t (seven y t)

pad : (v : Word) (j : ℕ) → get_or (v ++ zeros 6) j false ≡ get_or v j false
pad v j = elim (cases_lt j (length v)) [ inl l ↦ get_or_append_left v (zeros 6) false j l | inr g ↦ right g ]
  where
    none : (k : ℕ) → get_or (zeros 6) k false ≡ false
    none k = elim (cases_lt k 6) [ inl l ↦ get_or-replicate 6 k false false l | inr g ↦ get_or_past (zeros 6) k false g ]

    right : length v ≤ j → get_or (v ++ zeros 6) j false ≡ get_or v j false
    right g = get_or-append_right v (zeros 6) (length v) j false refl g ∙ none (j - length v) ∙ sym (get_or_past v j false g)

-- place k counted from the oldest is place j counted from the newest
recent : (v : Word) (j k : ℕ) → k + j ≡ length v + 5 → get_or (zeros 6 ++ reverse v) k false ≡ get_or v j false
recent v j k e =
    let l = length-append v (zeros 6) in
    let i : length (v ++ zeros 6) - 1 - k ≡ j = omega arith in
    ap (λ y. get_or y k false) (sym (reverse-append v (zeros 6)))
    ∙ get_or-reverse (v ++ zeros 6) k false (omega arith)
    ∙ ap (λ m. get_or (v ++ zeros 6) m false) i
    ∙ pad v j

seven-newest : (b : Bool) (v : Word) → seven (zeros 6 ++ reverse (b ∷ v)) (length v) ≡ newest (b ∷ v)
seven-newest b v =
    let n = length v in
    let r = λ (j k : ℕ) (e : k + j ≡ suc n + 5). ap bit (recent (b ∷ v) j k e) in
    omega (arith, r 0 (n + 6) (omega arith), r 1 (n + 5) (omega arith), r 2 (n + 4) (omega arith), r 3 (n + 3) (omega arith), r 4 (n + 2) (omega arith), r 5 (n + 1) (omega arith), r 6 n (omega arith))

seven-front : (y z : Word) (t : ℕ) → t + 6 < length y → seven (y ++ z) t ≡ seven y t
seven-front y z t h =
    let r = λ (k : ℕ) (l : k < length y). get_or_append_left y z false k l in
    rw (r t (omega arith), r (t + 1) (omega arith), r (t + 2) (omega arith), r (t + 3) (omega arith), r (t + 4) (omega arith), r (t + 5) (omega arith), r (t + 6) h)

cost_front : (cost : ℕ → ℕ → ℕ) (y z : Word) (n : ℕ) → n + 6 ≤ length y → cost_to cost (y ++ z) n ≡ cost_to cost y n
unfolding cost_to
cost_front cost y z zero h = refl
cost_front cost y z (suc n) h = rw (seven-front y z n (omega arith), cost_front cost y z n (omega arith))

cost_total : (cost : ℕ → ℕ → ℕ) (v : Word) → cost_to cost (zeros 6 ++ reverse v) (length v) ≡ total cost v
unfolding cost_to total
cost_total cost [] = refl
cost_total cost (b ∷ v) =
    let y = zeros 6 ++ reverse v in
    let e : zeros 6 ++ reverse (b ∷ v) ≡ y ++ (b ∷ []) = ap (λ u. zeros 6 ++ u) (reverse-cons b v) in
    rw (seven-newest b v) (ap (λ m. m + cost (length v) (newest (b ∷ v))) (ap (λ u. cost_to cost u (length v)) e ∙ cost_front cost y (b ∷ []) (length v) (omega (arith, length-reverse v)) ∙ cost_total cost v))

cost_append : (price : ℕ → ℕ → ℕ) (i : ℕ) (xs ys : List ℕ) → cost_from price i (xs ++ ys) ≡ cost_from price i xs + cost_from price (i + length xs) ys
unfolding cost_from
cost_append price i [] ys = rw (add-zero, zero-add)
cost_append price i (x ∷ xs) ys = rw (cost_append price (suc i) xs ys, add-suc i (length xs), ← suc-add i (length xs)) (sym (add_assoc (price i x) (cost_from price (suc i) xs) (cost_from price (suc i + length xs) ys)))

marks_cost : (rate : Rate) (price : ℕ → ℕ → ℕ) (w : Word) (n : ℕ) → cost_from price 0 (marks_to rate w n) ≡ cost_to (step_cost rate price) (zeros 6 ++ w) n
unfolding marks_to cost_to cost_from step_cost window
marks_cost rate price w zero = refl
marks_cost rate price w (suc n) =
    let e : 0 + length (marks_to rate w n) ≡ marks_before rate n = zero-add (length (marks_to rate w n)) ∙ length-marks_to rate w n in
    cost_append price 0 (marks_to rate w n) (step_marks rate n (window w n))
    ∙ ap (λ i. cost_from price 0 (marks_to rate w n) + cost_from price i (step_marks rate n (window w n))) e
    ∙ ap (λ m. m + step_cost rate price n (window w n)) (marks_cost rate price w n)

-- the costs of a word in the two orders
total-reverse : (rate : Rate) (price : ℕ → ℕ → ℕ) (d : Word) → total_cost rate price (reverse d) ≡ total (step_cost rate price) (zeros 6 ++ d)
unfolding total_cost marks
total-reverse rate price d =
    let e : length (reverse d) + 6 ≡ length (zeros 6 ++ d) = omega (arith, length-reverse d) in
    marks_cost rate price (reverse d ++ zeros 6) (length (reverse d) + 6)
    ∙ ap (λ n. cost_to (step_cost rate price) (zeros 6 ++ (reverse d ++ zeros 6)) n) e
    ∙ ap (λ u. cost_to (step_cost rate price) (zeros 6 ++ u) (length (zeros 6 ++ d))) (sym (reverse-append (zeros 6) d))
    ∙ cost_total (step_cost rate price) (zeros 6 ++ d)

pub least-reverse : (rate : Rate) (price : ℕ → ℕ → ℕ) (n : ℕ) → least rate price n ≡ reverse (best n (λ d. total (step_cost rate price) (zeros 6 ++ d)))
unfolding least
least-reverse rate price n =
    let f = λ (d : Word). total (step_cost rate price) (zeros 6 ++ d) in
    ap reverse (best_like n 0 (λ u. total_cost rate price (reverse u)) f (λ v l. total-reverse rate price v ∙ sym (add-zero (f v))))

turn_round : (b : Bool) (c x : Word) → reverse (c ++ (b ∷ x)) ≡ reverse x ++ (b ∷ reverse c)
turn_round b c x = reverse-append c (b ∷ x) ∙ ap (λ u. u ++ reverse c) (reverse-cons b x) ∙ append_assoc (reverse x) (b ∷ []) (reverse c)

in_time : (f : Word → ℕ) (a b : Word) → Before (λ d. f (reverse d)) a (reverse b) → (f (reverse a) < f b) ⊎ ((f (reverse a) ≡ f b) × ((reverse a ≡ b) ⊎ LowerLast (reverse a) b))
in_time f a b h =
    let back = reverse-reverse b in
    let fb = ap f back in
    elim h [
      | inl less ↦ inl (omega arith)
      | inr (e, inl same) ↦ inr (e ∙ fb, inl (ap reverse same ∙ back))
      | inr (e, inr (c, x, y, p, q)) ↦ inr (e ∙ fb, inr (reverse x, reverse y, reverse c, ap reverse p ∙ turn_round false c x, sym back ∙ ap reverse q ∙ turn_round true c y))
    ]

pub least_first : (rate : Rate) (price : ℕ → ℕ → ℕ) (n : ℕ) → Least rate price n (least rate price n)
unfolding least
least_first rate price n =
    let f = λ (u : Word). total_cost rate price (reverse u) in
    record {
      long = length-reverse (best n f) ∙ best-length n f;
      first = λ b l. in_time (total_cost rate price) (best n f) b (best-before n f (reverse b) (length-reverse b ∙ l));
    }
