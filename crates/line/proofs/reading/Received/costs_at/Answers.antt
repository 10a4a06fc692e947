-- The reading at the mark's place.
use Rattle.std.proofs.Common.{◌≡◌, ℕ, get_or, sym, ap, ◌∙◌, arith}
use Rattle.line.specs.Line.{prices}
use Rattle.line.proofs.Spots.{price_spot}
use Rattle.line.proofs.reading.Received.costs_at.Given as given
use Rattle.line.proofs.reading.Received.costs_at.Goals as goal

price : (g : given.Over) (c : goal.After-costs-zero g) (m : ℕ) → g.R.Reading.cost (get_or c.args.self.now.readings.now c.spot.result c.index-self-spot.result) m ≡ prices g.R.Reading.cost c.args.self.now.rule.grid.rows c.args.self.now.rule.grid.columns c.args.self.now.readings.now c.args.i m
price g c m =
    let rule = c.args.self.now.rule in
    ap (λ r. g.R.Reading.cost r m) (sym c.index-self-spot.is)
    ∙ price_spot rule.grid.rows rule.grid.columns rule.grid.tall rule.grid.wide g.R.Reading.cost c.args.self.now.readings.now c.args.i c.spot.result m c.index-self-spot.result c.args.self.now.long c.requires c.spot.ensures.at c.index-self-spot.is

pub returns : goal.returns
returns g c =
    let bounded = g.met.R.Reading.bounded (get_or c.args.self.now.readings.now c.spot.result c.index-self-spot.result) in
    record {
      zero = c.costs-zero.ensures.0 ∙ price g c 0;
      one = c.costs-zero.ensures.1 ∙ price g c 1;
      small = (omega (arith, c.costs-zero.ensures.0, bounded 0), omega (arith, c.costs-zero.ensures.1, bounded 1));
    }
