-- One byte more is one step of Horner's rule in each lane.
use Rattle.std.proofs.Common.{◌<◌, get_or, replicate, sym, ap, ◌∙◌, ap₂, arith}
use lib.Bits.{bit_xor}
use lib.ListN.{get_or-replicate}
use Rattle.std.proofs.lemmas.Simd.{get_or-zip2, Each1-get_or}
use Rattle.std.proofs.lemmas.List.{take_all}
use Rattle.outer.specs.Lanes.{lane, root}
use Rattle.outer.specs.Words.{syndrome}
use Rattle.outer.proofs.Cuts.{vector_fits}
use Rattle.outer.proofs.Zeros.{get_or-zeros}
use Rattle.outer.proofs.Values.{syndrome_none, syndrome_more}
use Rattle.outer.proofs.syndromes.syndromes.Goals as goal

pub loop-b-init : goal.loop-b-init
loop-b-init c f r rule are l h = get_or-zeros 32 l ∙ sym (syndrome_none f r l)

pub loop-b-preserved : goal.loop-b-preserved
loop-b-preserved c f r rule are l h =
    let s = c.loop-b.sums in
    let b = get_or c.args.word.now c.loop-b.b-index 0 in
    let x = root f r l in
    let kept = c.loop-b.auto.sums in
    let byte : lane s l < 256 = (Each1-get_or _ s l 0 (omega arith) kept.1).fits in
    get_or-zip2 bit_xor c.times.result (replicate 32 b) l 0 0 0 (omega arith) h
    ∙ ap₂ bit_xor
    (c.times.ensures f (root f r) rule are l h ∙ rule.mul_comm x (lane s l) (are.bytes l h) byte ∙ ap (λ v. f.mul v x) (c.loop-b.invariant f r rule are l h))
    (get_or-replicate 32 l b 0 h)
    ∙ sym (syndrome_more f r l c.args.word.now c.loop-b.b-index c.loop-b-test.true)

pub returns : goal.returns
returns c = record {
  lanes = λ f r rule are l h. c.loop-b.invariant f r rule are l h ∙ ap (λ w. syndrome f r w l) (take_all c.loop-b.b-index c.args.word.now c.loop-b-test.false);
  small = (λ k. (c.type_inv.word k).fits, (vector_fits c.loop-b.sums c.loop-b.auto.sums).small);
}
