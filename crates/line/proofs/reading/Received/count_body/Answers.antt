-- The marks of one byte more, and of the tail, are counted.
use Rattle.std.proofs.Common.{length, sym, ap, arith}
use Rattle.convolution.specs.Encoding.{sent}
use Rattle.line.specs.Line.{dear, block_size, rule_prices}
use Rattle.line.specs.Costing.{dear_join}
use Rattle.line.proofs.Running.{front, sent-front_none, after_none, after_more, sent_more, byte_length, byte_room, tail_room, sent_last, run_small, ran_shown, dear_room}
use Rattle.line.proofs.reading.Received.count_body.Goals as goal

pub loop-byte-init : goal.loop-byte-init
unfolding dear
loop-byte-init g c =
    let none = sent-front_none c.new-encoder.result.rate c.args.body.now in
    (after_none c.args.body.now c.new-encoder.ensures, ap length (sym none), ap (dear (rule_prices g.R.Reading.cost c.args.self.now.rule c.args.self.now.readings.now) 0) (sym none))

pub count_marks-total-requires : goal.count_marks-total-requires
count_marks-total-requires g c =
    let ran = ran_shown c.as_slice-marks.ensures (c.byte-marks.ensures.ran _ _ c.loop-byte.invariant.0) in
    record {
      inside = omega (arith, c.loop-byte.invariant.1, byte_room c.args.body.now c.loop-byte.byte-index (block_size c.args.self.now.rule) c.new-encoder.ensures.same c.loop-byte-test.true c.requires ran);
      marks = run_small ran;
    }

pub overflow_add-total : goal.overflow_add-total
overflow_add-total g c =
    let ran = ran_shown c.as_slice-marks.ensures (c.byte-marks.ensures.ran _ _ c.loop-byte.invariant.0) in
    let size = block_size c.args.self.now.rule in
    let room = byte_room c.args.body.now c.loop-byte.byte-index size c.new-encoder.ensures.same c.loop-byte-test.true c.requires ran in
    omega (arith, dear_room (rule_prices g.R.Reading.cost c.args.self.now.rule c.args.self.now.readings.now) (sent c.new-encoder.result.rate (front c.args.body.now c.loop-byte.byte-index)) c.as_slice-marks.result.now _ _ _ size c.loop-byte.invariant.2 c.count_marks-total.ensures room, c.args.self.now.rule.grid.small)

pub overflow_add-i : goal.overflow_add-i
overflow_add-i g c =
    let ran = ran_shown c.as_slice-marks.ensures (c.byte-marks.ensures.ran _ _ c.loop-byte.invariant.0) in
    omega (arith, c.loop-byte.invariant.1, byte_room c.args.body.now c.loop-byte.byte-index (block_size c.args.self.now.rule) c.new-encoder.ensures.same c.loop-byte-test.true c.requires ran, c.args.self.now.rule.grid.small)

pub loop-byte-preserved : goal.loop-byte-preserved
loop-byte-preserved g c =
    let body = c.args.body.now in
    let k = c.loop-byte.byte-index in
    let ran = ran_shown c.as_slice-marks.ensures (c.byte-marks.ensures.ran _ _ c.loop-byte.invariant.0) in (
      after_more body k c.loop-byte-test.true ran,
      omega (arith, c.loop-byte.invariant.1, byte_length body k c.loop-byte-test.true ran),
      dear_join (rule_prices g.R.Reading.cost c.args.self.now.rule c.args.self.now.readings.now) (sent c.new-encoder.result.rate (front c.args.body.now c.loop-byte.byte-index)) _ _ _ _ _ c.loop-byte.invariant.1 c.loop-byte.invariant.2 c.count_marks-total.ensures (sent_more body k c.loop-byte-test.true ran),
    )

pub count_marks-requires : goal.count_marks-requires
count_marks-requires g c =
    let ran = ran_shown c.as_slice.ensures (c.tail-marks.ensures.ran _ _ c.loop-byte.invariant.0) in
    record {
      inside = omega (arith, c.loop-byte.invariant.1, tail_room c.args.body.now c.loop-byte.byte-index (block_size c.args.self.now.rule) c.new-encoder.ensures.same (omega arith) c.requires ran);
      marks = run_small ran;
    }

pub overflow_add-result : goal.overflow_add-result
overflow_add-result g c =
    let ran = ran_shown c.as_slice.ensures (c.tail-marks.ensures.ran _ _ c.loop-byte.invariant.0) in
    let size = block_size c.args.self.now.rule in
    let room = tail_room c.args.body.now c.loop-byte.byte-index size c.new-encoder.ensures.same (omega arith) c.requires ran in
    omega (arith, dear_room (rule_prices g.R.Reading.cost c.args.self.now.rule c.args.self.now.readings.now) (sent c.new-encoder.result.rate (front c.args.body.now c.loop-byte.byte-index)) c.as_slice.result.now _ _ _ size c.loop-byte.invariant.2 c.count_marks.ensures room, c.args.self.now.rule.grid.small)

pub returns : goal.returns
returns g c =
    let ran = ran_shown c.as_slice.ensures (c.tail-marks.ensures.ran _ _ c.loop-byte.invariant.0) in
    dear_join (rule_prices g.R.Reading.cost c.args.self.now.rule c.args.self.now.readings.now) (sent c.new-encoder.result.rate (front c.args.body.now c.loop-byte.byte-index)) _ _ _ _ _ c.loop-byte.invariant.1 c.loop-byte.invariant.2 c.count_marks.ensures (sent_last c.args.body.now c.loop-byte.byte-index c.new-encoder.ensures.same (omega arith) ran)
