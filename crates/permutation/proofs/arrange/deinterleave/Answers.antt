-- With the elements of all rows back from their places the list is put back.
use Rattle.std.proofs.Common.{◌≡◌, ◌*◌, ◌<◌, sym, subst, arith}
use Rattle.permutation.proofs.Permuting.{deinterleaved_from_taken}
use Rattle.permutation.proofs.arrange.deinterleave.Goals as goal

pub returns : goal.returns
returns g c =
    let a = g.P.Arrange.meaning c.args.rule.now in
    let last : c.loop-row.row ≡ a.rows = omega arith in
    deinterleaved_from_taken a (g.met.P.Arrange.permutes _) c.args.from.now c.requires.read c.loop-row.to (omega arith)
    (λ i d k. c.loop-row.invariant i d (subst (λ r. i < r * a.columns) (sym last) k))
