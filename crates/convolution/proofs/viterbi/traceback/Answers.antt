-- One byte more stands in the body, and all of them are the bits of least cost.
use Rattle.std.proofs.Common.{◌≡◌, ◌+◌, ◌*◌, ◌++◌, reverse, length, drop, sym, ap, ◌∙◌, append-nil, arith, length-set}
use Rattle.std.proofs.lemmas.List.{drop_all}
use Rattle.convolution.specs.Code.{all_bits}
use Rattle.convolution.specs.Trellis.{back}
use Rattle.convolution.proofs.Backward.{body_more, decoded}
use Rattle.convolution.proofs.viterbi.traceback.Goals as goal

pub loop-i-init : goal.loop-i-init
unfolding all_bits
loop-i-init c =
    let body = c.args.body.now in
    let w = reverse (back c.args.decisions.now (8 * length body + 6) 0) in
    (omega arith, sym (ap (λ v. w ++ all_bits v) (drop_all (length body) body (omega arith)) ∙ append-nil w))

pub loop-i-preserved : goal.loop-i-preserved
loop-i-preserved c = (
  c.byte_back-byte.ensures.state,
  rw length-set (body_more c.args.decisions.now c.loop-i.body _ c.loop-i.i c.loop-i.state c.byte_back-byte.result.0 c.byte_back-byte.result.1 c.loop-i-test.true (omega arith) c.byte_back-byte.ensures.left c.loop-i.invariant.1),
)

pub returns : goal.returns
returns c =
    let ds = c.args.decisions.now in
    let body = c.loop-i.body in
    let s = c.loop-i.state in
    let none : c.loop-i.i ≡ 0 = omega arith in
    decoded ds body s (omega arith) (c.loop-i.invariant.1 ∙ ap (λ i. reverse (back ds (8 * i + 6) s) ++ all_bits (drop i body)) none)
