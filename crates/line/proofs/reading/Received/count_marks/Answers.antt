-- One mark more is counted.
use Rattle.std.proofs.Common.{◌≡◌, ℕ, ◌+◌, ◌<◌, ltb, get_or, refl, ap, ◌∙◌, arith}
use Rattle.line.specs.Line.{dear, prices}
use Rattle.line.specs.Costing.{dear_more, bool_le}
use Rattle.line.proofs.reading.Received.count_marks.Given as given
use Rattle.line.proofs.reading.Received.count_marks.Goals as goal
use Rattle.line.proofs.reading.Received.count_marks.Goals.{then-mark-eq0, else-mark-eq0}

pub loop-k-init : goal.loop-k-init
unfolding dear
loop-k-init g c = (omega arith, refl)

told : (price : ℕ → ℕ) (cost r n m : ℕ) → cost ≡ r → r ≡ price n → n ≡ m → cost ≡ price m
told price cost r n m p q e = p ∙ q ∙ ap price e

-- the cost that is looked at is the mark's
price_is : (g : given.Over) (c : goal.Joined-mark-eq0 g) → c.if-mark-eq0.cost ≡ prices g.R.Reading.cost c.args.self.now.rule.grid.rows c.args.self.now.rule.grid.columns c.args.self.now.readings.now (c.args.i + c.loop-k.k) (get_or c.args.marks.now c.loop-k.k 0)
price_is g c =
    let price = prices g.R.Reading.cost c.args.self.now.rule.grid.rows c.args.self.now.rule.grid.columns c.args.self.now.readings.now (c.args.i + c.loop-k.k) in
    let m = get_or c.args.marks.now c.loop-k.k 0 in
    let small : m < 2 = c.requires.marks c.loop-k.k in
    elim c.if-mark-eq0.branch [
      | then-mark-eq0 w ↦ let is : 0 ≡ m = omega (arith, w.if-mark-eq0.true) in told price _ _ 0 m w.cost-is c.costs_at-costs.ensures.zero is
      | else-mark-eq0 w ↦ let no = w.if-mark-eq0.false in let is : 1 ≡ m = omega arith in told price _ _ 1 m w.cost-is c.costs_at-costs.ensures.one is
    ]

pub loop-k-preserved : goal.loop-k-preserved
loop-k-preserved g c = (
  omega (arith, c.loop-k.invariant.0, bool_le (ltb 0 c.if-mark-eq0.cost)),
  dear_more (prices g.R.Reading.cost c.args.self.now.rule.grid.rows c.args.self.now.rule.grid.columns c.args.self.now.readings.now) c.args.i c.args.marks.now c.loop-k.k c.loop-k.count c.if-mark-eq0.cost c.loop-k-test.true (price_is g c) c.loop-k.invariant.1,
)
