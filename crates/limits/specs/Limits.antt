-- The limits of a plan's eleven numbers, in the order in which they are judged.
use Rattle.std.specs.Prelude.{ℕ, ◌+◌, ◌-◌, ◌*◌, Bool, true, cond, ◌&&◌, List, [], ◌∷◌, ◌++◌, Some, None, Option, ◌==◌, nat_le, Ok, Err, Result}
use Rattle.convolution.specs.declared.rate.Rate.{Rate}
use Rattle.convolution.specs.declared.rate.Rate.TheVariants.{Half, TwoThirds, ThreeQuarters, Third}
use Rattle.convolution.specs.Code.{marks_before}
use Rattle.stack.specs.declared.fault.Report.{Report}
use Rattle.limits.specs.declared.numbers.PlanNumbers.{PlanNumbers}
use Rattle.limits.specs.declared.numbers.PlanNumber.{PlanNumber}
use Rattle.limits.specs.declared.numbers.PlanNumber.TheVariants.{Field, Root, Words, Length, Errors, Seed, Check, Carrier, Rate as TheRate, Rows, Columns}

-- the bytes of all data
abbrev pub data_length : PlanNumbers → ℕ
data_length p = p.words * p.length

-- the bytes of a word, its check bytes included
abbrev pub word_length : PlanNumbers → ℕ
word_length p = p.length + 2 * p.errors

-- the bytes of all words
abbrev pub coded_length : PlanNumbers → ℕ
coded_length p = p.words * word_length p

-- the bytes of a body
abbrev pub body_length : PlanNumbers → ℕ
body_length p = data_length p - p.check

-- the rates by number
abbrev pub rate_of : ℕ → Rate
rate_of n = cond (n == 1) Half (cond (n == 2) TwoThirds (cond (n == 3) ThreeQuarters Third))

-- the kept marks of a block on the line
abbrev pub mark_count : PlanNumbers → ℕ
mark_count p = marks_before (rate_of p.rate) (8 * coded_length p + 6)

-- x is from low to high
abbrev pub between : ℕ → ℕ → ℕ → Bool
between low high x = nat_le low x && nat_le x high

-- one of the numbers, and whether it is within its limit where those before it are
pub record Limit : Type 0 where
  pub number : PlanNumber
  pub holds : Bool

abbrev pub limit : PlanNumber → Bool → Limit
limit n b = record { number = n; holds = b }

-- the numbers of the outer code
abbrev pub code_limits : PlanNumbers → List Limit
code_limits p =
    limit Field (between 1 2 p.field)
    ∷ limit Root (nat_le p.root 254)
    ∷ limit Words (between 1 16 p.words)
    ∷ limit Length (between 1 253 p.length)
    ∷ limit Errors (between 1 16 p.errors && nat_le (word_length p) 255)
    ∷ []

-- the numbers of the stages above it: with a check byte a body still has a byte of its own
abbrev pub stage_limits : PlanNumbers → List Limit
stage_limits p = limit Seed (nat_le p.seed 32767) ∷ limit Check (nat_le p.check 1 && nat_le 1 (body_length p)) ∷ []

-- the numbers of the carrier, for so many kept marks: on the bare one the last three are 0, and on the line the rows and columns have room for the marks
abbrev pub limits_with_marks : ℕ → PlanNumbers → List Limit
limits_with_marks marks p =
    limit Carrier (nat_le p.carrier 1)
    ∷ limit TheRate (cond (p.carrier == 0) (p.rate == 0) (between 1 4 p.rate))
    ∷ limit Rows (cond (p.carrier == 0) (p.rows == 0) (nat_le 1 p.rows))
    ∷ limit Columns (cond (p.carrier == 0) (p.columns == 0) (nat_le 1 p.columns && between marks 98304 (p.rows * p.columns)))
    ∷ []

abbrev pub carrier_limits : PlanNumbers → List Limit
carrier_limits p = limits_with_marks (mark_count p) p

-- all of them, in order
abbrev pub limits : PlanNumbers → List Limit
limits p = code_limits p ++ stage_limits p ++ carrier_limits p

-- the first that does not hold
abbrev pub first_wrong : List Limit → Option PlanNumber
first_wrong [] = None
first_wrong (l ∷ ls) = cond l.holds (first_wrong ls) (Some l.number)

-- numbers are refused for the first that is wrong, if there is one
abbrev pub judged : Option PlanNumber → Result (Unit {0}) PlanNumber
judged None = Ok tt
judged (Some w) = Err w

-- all of them hold
abbrev pub all_hold : List Limit → Bool
all_hold [] = true
all_hold (l ∷ ls) = l.holds && all_hold ls

-- the first number that is out of its limit
unfoldable pub first_out : PlanNumbers → Option PlanNumber
first_out p = first_wrong (limits p)

-- the numbers are within their limits
unfoldable pub within : PlanNumbers → Bool
within p = all_hold (limits p)

-- the position of each number, from 1
abbrev pub position : PlanNumber → ℕ
position Field = 1
position Root = 2
position Words = 3
position Length = 4
position Errors = 5
position Seed = 6
position Check = 7
position Carrier = 8
position TheRate = 9
position Rows = 10
position Columns = 11

-- the refusal of a plan
abbrev pub plan_report : PlanNumber → Report
plan_report n = record { number = 1; depth = 0; place = position n }

-- whether the plan's carrier is the bare one
abbrev pub on_bare : PlanNumbers → Bool
on_bare p = p.carrier == 0

-- the symbols of a block
abbrev pub air_length : PlanNumbers → ℕ
air_length p = cond (on_bare p) (coded_length p) (p.rows * p.columns)

-- the steps of a block on the line
abbrev pub step_count : PlanNumbers → ℕ
step_count p = cond (on_bare p) 0 (8 * coded_length p + 6)
