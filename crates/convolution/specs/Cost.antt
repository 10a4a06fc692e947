-- What a word costs against readings, and the word of least cost, by exhaustion.
use Rattle.std.specs.Prelude.{◌≡◌, ℕ, zero, suc, ◌+◌, ◌<◌, true, false, cond, ◌⊎◌, List, [], ◌∷◌, ◌++◌, reverse, length, nat_lt}
use Rattle.convolution.specs.declared.rate.Rate.{Rate}
use Rattle.convolution.specs.Code.{Word, step_marks, marks, marks_before}

-- `price i m` is what reading i, of the kept marks in their order, costs for the mark m

-- the cost of marks, the first of them against reading i
unfoldable pub cost_from : (ℕ → ℕ → ℕ) → ℕ → List ℕ → ℕ
cost_from price i [] = 0
cost_from price i (m ∷ ms) = price i m + cost_from price (suc i) ms

-- the cost of a step's window
unfoldable pub step_cost : Rate → (ℕ → ℕ → ℕ) → ℕ → ℕ → ℕ
step_cost rate price t w = cost_from price (marks_before rate t) (step_marks rate t w)

-- the total cost of data bits over all kept marks
unfoldable pub total_cost : Rate → (ℕ → ℕ → ℕ) → Word → ℕ
total_cost rate price w = cost_from price 0 (marks rate w)

-- of two words the one of less cost, and the first of two equal ones
abbrev pub pick : (Word → ℕ) → Word → Word → Word
pick f a b = cond (nat_lt (f b) (f a)) b a

-- the least of all words of n bits, held newest bit first: of the least with 0 as its newest bit and the least with 1 (so of two equal ones that with 0 where they last differ)
unfoldable pub best : ℕ → (Word → ℕ) → Word
best zero f = []
best (suc n) f = pick f (false ∷ best n (λ u. f (false ∷ u))) (true ∷ best n (λ u. f (true ∷ u)))

-- the n data bits of least cost
unfoldable pub least : Rate → (ℕ → ℕ → ℕ) → ℕ → Word
least rate price n = reverse (best n (λ u. total_cost rate price (reverse u)))

-- a has 0 and b has 1 where they last differ
abbrev pub LowerLast : Word → Word → Type 0
LowerLast a b = (x y c : Word) × (a ≡ x ++ (false ∷ c)) × (b ≡ y ++ (true ∷ c))

-- a is before all other words of n bits: it costs less, or the same with 0 where the two last differ
pub record Least (rate : Rate) (price : ℕ → ℕ → ℕ) (n : ℕ) (a : Word) : Type 0 where
  pub long : length a ≡ n
  pub first : (b : Word) → length b ≡ n → (total_cost rate price a < total_cost rate price b) ⊎ ((total_cost rate price a ≡ total_cost rate price b) × ((a ≡ b) ⊎ LowerLast a b))
