-- The marks of one byte more, and of the tail, stand at their places.
use Rattle.std.proofs.Common.{length, sym, ap, ◌∙◌, arith}
use Rattle.stack.specs.Buffers.{zeros}
use Rattle.stack.specs.Bodies.{cleared}
use Rattle.line.specs.Line.{spread, block, block_size}
use Rattle.line.proofs.Running.{sent-front_none, after_none, after_more, sent_more, byte_length, byte_room, tail_room, sent_last, ran_shown}
use Rattle.line.proofs.Spots.{spread_none}
use Rattle.line.proofs.sending.put_body.Goals as goal

pub loop-byte-init : goal.loop-byte-init
loop-byte-init c =
    let r = c.args.rule in
    let none = sent-front_none c.new-encoder.result.rate c.args.body.now in
    (after_none c.args.body.now c.new-encoder.ensures, ap length (sym none), cleared _ _ c.clear.ensures ∙ ap zeros c.requires.long ∙ spread_none r.grid.rows r.grid.columns r.grid.tall r.grid.wide ∙ ap (spread r.grid.rows r.grid.columns) (sym none))

pub put_marks-requires : goal.put_marks-requires
put_marks-requires c =
    let ran = ran_shown c.as_slice-marks.ensures (c.byte-marks.ensures.ran _ _ c.loop-byte.invariant.0) in
    record { long = omega arith; room = omega (arith, c.loop-byte.invariant.1, byte_room c.args.body.now c.loop-byte.byte-index (block_size c.args.rule) c.new-encoder.ensures.same c.loop-byte-test.true c.requires.room ran) }

pub overflow_add-at : goal.overflow_add-at
overflow_add-at c =
    let ran = ran_shown c.as_slice-marks.ensures (c.byte-marks.ensures.ran _ _ c.loop-byte.invariant.0) in
    omega (arith, c.loop-byte.invariant.1, byte_room c.args.body.now c.loop-byte.byte-index (block_size c.args.rule) c.new-encoder.ensures.same c.loop-byte-test.true c.requires.room ran, c.args.rule.grid.small)

pub loop-byte-preserved : goal.loop-byte-preserved
loop-byte-preserved c =
    let body = c.args.body.now in
    let k = c.loop-byte.byte-index in
    let ran = ran_shown c.as_slice-marks.ensures (c.byte-marks.ensures.ran _ _ c.loop-byte.invariant.0) in (
      after_more body k c.loop-byte-test.true ran,
      omega (arith, c.loop-byte.invariant.1, byte_length body k c.loop-byte-test.true ran),
      c.put_marks.ensures _ (sym c.loop-byte.invariant.1) c.loop-byte.invariant.2 ∙ ap (spread c.args.rule.grid.rows c.args.rule.grid.columns) (sent_more body k c.loop-byte-test.true ran),
    )

pub put_marks-requires-2 : goal.put_marks-requires-2
put_marks-requires-2 c =
    let ran = ran_shown c.as_slice.ensures (c.tail-marks.ensures.ran _ _ c.loop-byte.invariant.0) in
    record { long = omega arith; room = omega (arith, c.loop-byte.invariant.1, tail_room c.args.body.now c.loop-byte.byte-index (block_size c.args.rule) c.new-encoder.ensures.same (omega arith) c.requires.room ran) }

pub returns : goal.returns
unfolding block
returns c =
    let ran = ran_shown c.as_slice.ensures (c.tail-marks.ensures.ran _ _ c.loop-byte.invariant.0) in
    c.put_marks-2.ensures _ (sym c.loop-byte.invariant.1) c.loop-byte.invariant.2
    ∙ ap (spread c.args.rule.grid.rows c.args.rule.grid.columns) (sent_last c.args.body.now c.loop-byte.byte-index c.new-encoder.ensures.same (omega arith) ran)
