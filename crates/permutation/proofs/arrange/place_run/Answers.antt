-- One more element stands at its place, and at the end the whole run does.
use Rattle.std.proofs.Common.{◌≡◌, ◌+◌, ◌*◌, length, refl, subst, arith}
use Rattle.permutation.specs.Arrange.{Moved}
use Rattle.permutation.proofs.Rows.{row_end}
use Rattle.permutation.proofs.Runs.{moved_in_row, placed_run}
use Rattle.permutation.proofs.arrange.place_run.Goals as goal

pub loop-k-preserved : goal.loop-k-preserved
loop-k-preserved g c =
    moved_in_row _ (g.met.P.Arrange.permutes _) c.args.column c.loop-k.k c.requires.within (omega arith) c.place.ensures c.args.from.now c.args.to.now c.loop-k.to (omega arith) c.loop-k-test.true c.index-from-k.is
    c.loop-k.invariant

pub returns : goal.returns
returns g c =
    let a = g.P.Arrange.meaning c.args.rule.now in
    let last : c.loop-k.k ≡ length c.args.from.now = omega arith in
    placed_run a (g.met.P.Arrange.permutes _) (c.args.row * a.columns + c.args.column) c.args.from.now c.args.to.now c.loop-k.to
    (omega (arith, row_end a {row = c.args.row} c.requires.within refl))
    (subst (λ n. Moved a.place (c.args.row * a.columns + c.args.column) n c.args.from.now c.args.to.now c.loop-k.to) last c.loop-k.invariant)
