-- A plan's carrier is there where the plan is on it.
use Rattle.std.proofs.Common.{◌≡◌, ℕ, ◌+◌, ◌*◌, ◌≤◌, true, false, Some, None, Option, sym, ◌∙◌, subst, ap₂, arith, MatchOption}
use Rattle.convolution.specs.declared.rate.Rate.{Rate}
use Rattle.convolution.specs.Code.{marks_before}
use Rattle.line.specs.declared.line.Line.{Line}
use Rattle.stack.specs.declared.bare.Bare.{Bare}
use Rattle.limits.specs.declared.numbers.PlanNumbers.{PlanNumbers}
use Rattle.limits.specs.Limits.{coded_length, rate_of}
use Rattle.limits.specs.Limits.{on_bare}
use Rattle.limits.proofs.Within.{Sound, coded_low, coded_high}

pub bare_made : {n : ℕ} (p : PlanNumbers) → Sound p → on_bare p ≡ true → n ≡ coded_length p → (r : Option Bare) → MatchOption r ((1 ≤ n × n ≤ 98304) → ⊥) (λ b. b.length ≡ n)
    → MatchOption r (on_bare p ≡ false) (λ b. (on_bare p ≡ true) × (b.length ≡ coded_length p))
bare_made p s on e None made = absurd (made (omega (arith, coded_low p s), omega (arith, coded_high p s)))
bare_made p s on e (Some b) made = (on, made ∙ e)

pub line_made : {R : Type 0} {rate : Rate} {n : ℕ} (p : PlanNumbers) → Sound p → on_bare p ≡ false → rate ≡ rate_of p.rate → n ≡ coded_length p → (r : Option (Line R))
    → MatchOption r ((1 ≤ n) × (1 ≤ p.rows) × (1 ≤ p.columns) × (p.rows * p.columns ≤ 98304) × (marks_before rate (8 * n + 6) ≤ p.rows * p.columns) → ⊥)
    (λ c. (c.rate ≡ rate) × (c.helical.grid.rows ≡ p.rows) × (c.helical.grid.columns ≡ p.columns) × (c.length ≡ n))
    → MatchOption r (on_bare p ≡ true) (λ c. (on_bare p ≡ false) × (c.rate ≡ rate_of p.rate) × (c.helical.grid.rows ≡ p.rows) × (c.helical.grid.columns ≡ p.columns) × (c.length ≡ coded_length p))
line_made {rate = rate} {n = n} p s off same e None made =
    let w = s.line off in
    let marks : marks_before rate (8 * n + 6) ≤ p.rows * p.columns = subst (λ m. m ≤ p.rows * p.columns) (ap₂ (λ q m. marks_before q (8 * m + 6)) (sym same) (sym e)) w.marks in
    absurd (made (omega (arith, coded_low p s), w.rows, w.columns, w.air, marks))
line_made p s off same e (Some c) made = (off, made.0 ∙ same, made.1, made.2, made.3 ∙ e)
