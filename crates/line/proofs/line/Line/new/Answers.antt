-- The numbers that are refused: every step keeps a mark, so a longer body has no room.
use Rattle.std.proofs.Common.{◌+◌, ◌*◌, ap₂, arith}
use Rattle.convolution.proofs.Pattern.{steps_marks}
use Rattle.line.proofs.line.Line.new.Goals as goal
use Rattle.line.proofs.line.Line.new.Goals.{then-length-lt1-via-then-length-lt1, then-length-lt1-via-else-length-lt1+then-length-gt98304, then-length-lt1-via-else-length-lt1+else-length-gt98304+then-mark_count-len}

pub returns-then-length-lt1 : goal.returns-then-length-lt1
returns-then-length-lt1 g c (low, tall, wide, small, room) =
    let same = c.in_ok-helical.ensures in
    let many = steps_marks c.args.rate (8 * c.args.length + 6) in
    elim c.then-length-lt1.branch [
      | then-length-lt1-via-then-length-lt1 w ↦ omega (arith, w.if-length-lt1.true)
      | then-length-lt1-via-else-length-lt1+then-length-gt98304 w ↦ omega (arith, w.if-length-gt98304.true)
      | then-length-lt1-via-else-length-lt1+else-length-gt98304+then-mark_count-len w ↦ omega (arith, w.if-mark_count-len.true, w.mark_count.ensures, w.len.ensures, ap₂ ◌*◌ same.0 same.1)
    ]
