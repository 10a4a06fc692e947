-- The two halves of a step, state by state.
use Rattle.std.proofs.Common.{◌+◌, ◌*◌, true, false, ◌++◌, get_or, arith}
use Rattle.convolution.proofs.Halves.{lane_is, half, whole}
use Rattle.convolution.proofs.lanes.select.Goals as goal

pub returns : goal.returns
returns c cost p =
    let ms = c.args.low ++ c.args.high in
    let even = c.split.ensures.even in
    let odd = c.split.ensures.odd in
    let a = c.choose-a.ensures in
    let b = c.choose-b.ensures in
    whole cost ms c.choose-a.result.0 c.choose-b.result.0 c.choose-a.result.1 c.choose-b.result.1
    (half cost 0 ms c.add.result c.add-2.result c.choose-a.result.0 c.choose-a.result.1 a.long a.below
    (λ s h. (
      lane_is cost ms (s + 0) false (get_or c.add.result s 0) _ _ (2 * s) (2 * s) (c.add.ensures s h) (even s h) (p.none s h) (omega arith) (omega arith),
      lane_is cost ms (s + 0) true (get_or c.add-2.result s 0) _ _ (2 * s + 1) (2 * s + 1) (c.add-2.ensures s h) (odd s h) (p.oldest s h) (omega arith) (omega arith),
    ))
    a.least a.kept)
    (half cost 32 ms c.add-3.result c.add-4.result c.choose-b.result.0 c.choose-b.result.1 b.long b.below
    (λ s h. (
      lane_is cost ms (s + 32) false (get_or c.add-3.result s 0) _ _ (2 * s) (2 * s + 64) (c.add-3.ensures s h) (even s h) (p.newest s h) (omega arith) (omega arith),
      lane_is cost ms (s + 32) true (get_or c.add-4.result s 0) _ _ (2 * s + 1) (2 * s + 65) (c.add-4.ensures s h) (odd s h) (p.both s h) (omega arith) (omega arith),
    ))
    b.least b.kept)
