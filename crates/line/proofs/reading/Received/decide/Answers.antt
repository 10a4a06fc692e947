-- The decisions of one run of steps more.
use Rattle.std.proofs.Common.{◌≡◌, ◌+◌, ◌-◌, ◌≤◌, ◌++◌, length, take, drop, sym, ◌∙◌, arith}
use Rattle.std.proofs.lemmas.List.{length-append, length-drop, length-take-le}
use Rattle.convolution.proofs.Pattern.{marks_before_mono}
use Rattle.permutation.specs.Arrange.{restored}
use Rattle.readings.specs.Helix.{helix}
use Rattle.line.specs.Costing.{price_le}
use Rattle.line.proofs.Choosing.{run_long, went_more}
use Rattle.line.proofs.reading.Received.decide.Goals as goal

pub run_steps-requires : goal.run_steps-requires
run_steps-requires g c =
    let from = c.loop-from.from in
    let n = c.min-count.result in
    let ds = c.loop-from.decisions in
    let fits : from + n ≤ length ds = omega (arith, c.min-count.ensures) in
    let long : length (take n c.loop-from.costs) ≡ n = length-take-le n c.loop-from.costs (omega (arith, c.min-count.ensures, c.loop-from.invariant.2)) in
    record {
      same = c.from-generators.ensures;
      long = run_long from n ds fits ∙ sym long;
      inside = omega (arith, c.requires, marks_before_mono c.args.self.now.rate (from + length (take n c.loop-from.costs)) (length c.args.decisions.now) (omega (arith, long, fits)));
    }

pub loop-from-preserved : goal.loop-from-preserved
loop-from-preserved g c =
    let from = c.loop-from.from in
    let n = c.min-count.result in
    let ds = c.loop-from.decisions in
    let whole : n ≡ 64 = omega (arith, c.min-count.ensures) in
    let fits : from + n ≤ length ds = omega (arith, c.min-count.ensures) in
    let long : length (take n c.loop-from.costs) ≡ n = length-take-le n c.loop-from.costs (omega (arith, c.min-count.ensures, c.loop-from.invariant.2)) in
    let more = went_more from _ 64 ds _ c.run_steps.ensures (long ∙ whole) (omega arith) (c.run_steps.auto.decisions ∙ run_long from n ds fits ∙ whole) c.loop-from.invariant.0 c.loop-from.invariant.1 in
    (more.0, more.1, simp (length-append, length-drop) (omega (arith, c.run_steps.auto.costs, c.loop-from.invariant.2)))

pub returns : goal.returns
returns g c = record {
  small = price_le g.R.Reading.cost 128 g.met.R.Reading.bounded (restored (helix c.args.self.now.rule.grid.rows c.args.self.now.rule.grid.columns) c.args.self.now.readings.now);
  chose = λ t l. c.loop-from.invariant.1 t (omega arith);
}

pub returns-2 : goal.returns-2
returns-2 g c =
    let from = c.loop-from.from in
    let n = c.min-count.result in
    let ds = c.loop-from.decisions in
    let fits : from + n ≤ length ds = omega (arith, c.min-count.ensures) in
    let long : length (take n c.loop-from.costs) ≡ n = length-take-le n c.loop-from.costs (omega (arith, c.min-count.ensures, c.loop-from.invariant.2)) in
    let run : length c.run_steps.new.decisions ≡ n = c.run_steps.auto.decisions ∙ run_long from n ds fits in
    let more = went_more from _ n ds _ c.run_steps.ensures long (omega arith) run c.loop-from.invariant.0 c.loop-from.invariant.1 in
    let end : length (take from ds ++ (c.run_steps.new.decisions ++ drop (from + n - from) (drop from ds))) ≤ from + n =
    simp (length-append, length-drop) (omega (arith, c.min-count.ensures, length-take-le from ds (omega arith), run)) in
    record {
      small = price_le g.R.Reading.cost 128 g.met.R.Reading.bounded (restored (helix c.args.self.now.rule.grid.rows c.args.self.now.rule.grid.columns) c.args.self.now.readings.now);
      chose = λ t l. more.1 t (omega (arith, end, l));
    }
