use Rattle.std.proofs.Common.{get_or, ◌∙◌, subst, arith}
use Rattle.std.proofs.lemmas.Result.{err_from_is_err_and}
use Rattle.book.specs.Handing.{MarkOf, FirstOver}
use Rattle.book.specs.Running.{mark_of}
use Rattle.book.proofs.Judged.{missing}
use Rattle.book.proofs.Filling.{one_more, all_taken, over_not, over_here, over_none}
use Rattle.book.proofs.run.fill_hard.Goals as goal

pub returns-in_err-mark : goal.returns-in_err-mark
returns-in_err-mark c =
    let p = err_from_is_err_and c.from_residual.result c.from_residual.ensures.1 in
    let over = subst (MarkOf (get_or c.args.bytes.now c.loop-i.i 0)) c.in_err-mark.ensures.ok_part c.mark_by_number.ensures in
    rw (p.1, p.2)
    (subst (FirstOver c.args.bytes.now) (missing _ _ _ c.in_err-mark.ensures.value c.in_err-mark.ensures.ok_part)
    (c.loop-i.invariant.0 ∙ over_here c.loop-i.i c.args.bytes.now (omega arith) over))

pub loop-i-preserved : goal.loop-i-preserved
loop-i-preserved c =
    let is = subst (MarkOf (get_or c.args.bytes.now c.loop-i.i 0)) c.in_ok-mark.ensures.ok_part c.mark_by_number.ensures in (
      c.loop-i.invariant.0 ∙ over_not c.loop-i.i c.args.bytes.now (omega arith) is.0,
      one_more mark_of c.args.bytes.now c.loop-i.marks 0 _ c.loop-i.i (omega arith) (omega arith) is.1 c.loop-i.invariant.1,
    )

pub returns : goal.returns
returns c = (
  c.loop-i.invariant.0 ∙ over_none c.loop-i.i c.args.bytes.now (omega arith),
  all_taken mark_of c.args.bytes.now c.loop-i.marks c.loop-i.i (omega arith) (omega arith) c.loop-i.invariant.1,
)
