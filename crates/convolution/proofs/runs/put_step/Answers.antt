-- One row more is written, and after three the step's marks stand.
use Rattle.std.proofs.Common.{◌≡◌, ◌++◌, take, ap, ◌∙◌, arith}
use Rattle.std.proofs.lemmas.List.{take_all}
use Rattle.std.specs.List.{flat_map}
use Rattle.convolution.proofs.Writing.{kept_of, picked_rows}
use Rattle.convolution.proofs.runs.put_step.Goals as goal

pub returns : goal.returns
returns c =
    let end : c.loop-row.row-index ≡ 3 = omega arith in
    record {
      written = c.loop-row.invariant.1 ∙ ap (λ l. take c.args.count c.args.marks.now ++ flat_map (kept_of c.args.i) l) (take_all c.loop-row.row-index c.args.rows (omega arith)) ∙ ap (λ l. take c.args.count c.args.marks.now ++ l) (picked_rows c.args.rows c.args.i (omega arith));
      count = omega (arith, c.loop-row.invariant.0);
    }
