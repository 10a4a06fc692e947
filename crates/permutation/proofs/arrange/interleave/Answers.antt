-- With the elements of all rows at their places the list is rearranged.
use Rattle.std.proofs.Common.{◌≡◌, ◌*◌, ◌<◌, sym, subst, arith}
use Rattle.permutation.proofs.Permuting.{interleaved_from_placed}
use Rattle.permutation.proofs.Runs.{placed_row}
use Rattle.permutation.proofs.arrange.interleave.Goals as goal

pub loop-row-preserved : goal.loop-row-preserved
loop-row-preserved g c =
    placed_row (g.P.Arrange.meaning c.args.rule.now) (omega arith) c.columns-columns.ensures c.args.from.now c.loop-row.to c.place_run.new.to c.requires.read c.place_run.ensures c.loop-row.invariant

pub returns : goal.returns
returns g c =
    let a = g.P.Arrange.meaning c.args.rule.now in
    let last : c.loop-row.row ≡ a.rows = omega arith in
    interleaved_from_placed a (g.met.P.Arrange.permutes _) c.args.from.now c.requires.read c.loop-row.to (omega arith)
    (λ i d k. c.loop-row.invariant i d (subst (λ r. i < r * a.columns) (sym last) k))
