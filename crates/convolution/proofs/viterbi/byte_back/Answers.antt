-- One bit more is found, and after eight the byte is whole.
use Rattle.std.proofs.Common.{◌≡◌, ◌+◌, ◌-◌, take, drop, ap, ◌∙◌, arith}
use Rattle.convolution.proofs.Backward.{left_none, left_next, none_left, left_eight}
use Rattle.convolution.proofs.viterbi.byte_back.Goals as goal

pub loop-k-init : goal.loop-k-init
loop-k-init c =
    let eight : c.args.from + 8 - c.args.from ≡ 8 = omega arith in
    rw (c.into_iter-k-iterator.ensures.into_iter_gives, c.enumerate-k-items.ensures.source, c.enumerate-k-items.ensures.count, c.rev.ensures.source)
    (left_none c.args.decisions.now c.args.from c.args.after c.requires.state, omega arith, c.iter.ensures.rest ∙ ap (λ n. take n (drop c.args.from c.args.decisions.now)) eight)

pub loop-k-preserved : goal.loop-k-preserved
loop-k-preserved c =
    let (rest, at, next, fits) = c.in-Some.ensures.steps in
    rw (next, at) (left_next c.args.decisions.now _ _ c.args.from c.args.after c.loop-k.k-iterator.count c.loop-k.byte c.loop-k.state c.in-Some.decision.now c.requires.long c.loop-k.invariant.1 c.loop-k.invariant.2 rest c.loop-k.invariant.0)

pub returns : goal.returns
returns c =
    let e : c.loop-k.k-iterator.count ≡ 8 = none_left c.args.decisions.now _ c.args.from c.loop-k.k-iterator.count c.requires.long c.loop-k.invariant.1 c.loop-k.invariant.2 c.in-None.ensures.steps.0.0 in
    record { left = left_eight c.args.decisions.now c.args.from c.args.after c.loop-k.k-iterator.count c.loop-k.byte c.loop-k.state e c.loop-k.invariant.0; state = c.loop-k.invariant.0.state }
