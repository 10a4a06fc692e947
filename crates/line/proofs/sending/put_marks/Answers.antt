-- One mark more stands at its place.
use Rattle.line.proofs.Spots.{spread_more}
use Rattle.line.proofs.sending.put_marks.Goals as goal

pub loop-k-preserved : goal.loop-k-preserved
loop-k-preserved c = λ ms l e.
    spread_more c.args.rule.grid.rows c.args.rule.grid.columns c.args.rule.grid.tall c.args.rule.grid.wide ms c.args.marks.now c.loop-k.symbols c.args.at c.loop-k.k c.spot.result l c.requires.room c.loop-k-test.true
    c.spot.ensures.at (c.loop-k.invariant ms l e)
