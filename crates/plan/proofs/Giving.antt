-- What a plan's stack gives has the plan's lengths.
use Rattle.std.proofs.Common.{◌≡◌, ℕ, ◌-◌, ◌*◌, ◌<◌, ◌≤◌, false, List, length, IfOk, sym, refl, ◌∙◌, arith}
use Rattle.line.specs.Line.{lining}
use Rattle.line.specs.Lined.{lining_rule}
use Rattle.std.proofs.lemmas.Result.{MatchResult-weaker}
use Rattle.stack.specs.Bare.{bare}
use Rattle.stack.specs.Meaning.{CarrierMeaning}
use Rattle.stack.specs.Rules.{CarrierRule}
use Rattle.stack.specs.Stacks.{Composed, stack_of}
use Rattle.stack.proofs.Composing.{stacks_compose}
use Rattle.limits.specs.declared.numbers.PlanNumbers.{PlanNumbers}
use Rattle.limits.specs.Limits.{body_length, coded_length, rate_of}
use Rattle.limits.specs.Limits.{on_bare}
use Rattle.plan.specs.Stacks.{plan_stages, plan_on, bare_plan, line_plan}
use Rattle.plan.proofs.Calling.{low_enough}
use Rattle.plan.proofs.Standing.{plan_stand, top_plan}
use Rattle.limits.proofs.Within.{Sound, coded_low, coded_high}

-- the stages of a plan compose on every carrier of its length that stands alone
pub composed_on : {R : Type 0} (p : PlanNumbers) (unit : ℕ) → Sound p → (c : CarrierMeaning R) → CarrierRule c → c.body ≡ coded_length p → c.height ≡ 1 → Composed (plan_stages p unit) c
composed_on p unit s c rule body alone = stacks_compose c rule (plan_stages p unit) (plan_stand p unit s c body) (low_enough p unit c.height alone)

-- so every body that is given has the plan's length
pub given_long : {R : Type 0} (p : PlanNumbers) (unit : ℕ) → Sound p → (c : CarrierMeaning R) → CarrierRule c → c.body ≡ coded_length p → c.height ≡ 1 → (rs : List R) → length rs ≡ c.air
    → IfOk ((plan_on p unit c).got rs) (λ g. length g.body ≡ body_length p)
unfolding plan_on
given_long p unit s c rule body alone rs long =
    let whole = composed_on p unit s c rule body alone in
    MatchResult-weaker ((stack_of (plan_stages p unit) c).got rs) (whole.rule.receives rs (long ∙ sym whole.air)) (λ g w. w.body ∙ whole.body ∙ top_plan p unit s c body) (λ f w. tt)

-- the bare carrier keeps the carrier rule
pub bare_rule : (n : ℕ) → 1 ≤ n → n ≤ 98304 → CarrierRule (bare n)
bare_rule n low high = record {
  body = record { low = low; high = high };
  air = record { low = low; high = high };
  height_low = omega arith;
  height_high = omega arith;
  need_low = omega arith;
  need_high = high;
  sent_length = λ x e. e;
  clean_length = λ m e. e;
  receives = λ rs e. record { body = e; symbols = omega arith; bytes = omega arith };
  returns = λ x e b. refl;
}

pub given_bare : (p : PlanNumbers) (unit : ℕ) → Sound p → (rs : List ℕ) → length rs ≡ coded_length p → IfOk ((bare_plan p unit).got rs) (λ g. length g.body ≡ body_length p)
given_bare p unit s rs long = given_long p unit s (bare (coded_length p)) (bare_rule (coded_length p) (coded_low p s) (omega (arith, coded_high p s))) refl refl rs long

-- on the line, for readings of any kind that keeps the laws of clean readings
pub given_line : {R : Type 0} (cost : R → ℕ → ℕ) (clean : ℕ → R) → ((m : ℕ) → m < 2 → cost (clean m) m ≡ 0) → ((m : ℕ) → m < 2 → 1 ≤ cost (clean m) (1 - m))
    → (p : PlanNumbers) (unit : ℕ) → Sound p → on_bare p ≡ false → (rs : List R) → length rs ≡ p.rows * p.columns → IfOk ((line_plan cost clean p unit).got rs) (λ g. length g.body ≡ body_length p)
given_line cost clean free dear p unit s off rs long =
    let w = s.line off in
    given_long p unit s (lining cost clean (rate_of p.rate) p.rows p.columns (coded_length p))
    (lining_rule cost clean free dear (rate_of p.rate) p.rows p.columns (coded_length p) w.rows w.columns w.air (coded_low p s) w.marks) refl refl rs long
