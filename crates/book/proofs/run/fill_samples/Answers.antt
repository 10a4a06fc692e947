use Rattle.std.proofs.Common.{◌≡◌, ℕ, ◌+◌, ◌*◌, length, get_or, to_z, pos, sym, ap, ◌∙◌, arith, to_z-of_z, w8, w16, SFits, rules}
use Rattle.readings.specs.Samples.{soft_of}
use Rattle.book.specs.Running.{samples}
use Rattle.book.proofs.Filling.{one_more, pair_at, all_taken, samples-length, sample_at}
use Rattle.book.proofs.run.fill_samples.Goals as goal

pub loop-i-preserved : goal.loop-i-preserved
loop-i-preserved c =
    let n = samples-length (length c.args.soft.now) c.args.bytes.now c.requires in
    let high = pair_at c.args.bytes.now c.loop-i.i 0 c.as_chunks.ensures.front (omega arith) (omega arith) ∙ ap (λ (j : ℕ). get_or c.args.bytes.now j 0) (let e : 2 * c.loop-i.i + 0 ≡ 2 * c.loop-i.i = omega arith in e) in
    let low = pair_at c.args.bytes.now c.loop-i.i 1 c.as_chunks.ensures.front (omega arith) (omega arith) in
    let f : SFits w8 c.soft_of_sample.result = search rules in
    let g : SFits w16 c.from_be_bytes-sample.result = search rules in
    one_more soft_of (samples c.args.bytes.now) c.loop-i.soft (pos 0) _ c.loop-i.i (omega arith) (omega arith)
    (to_z-of_z f ∙ c.soft_of_sample.ensures.value
    ∙ ap soft_of (to_z-of_z g ∙ c.from_be_bytes-sample.ensures ∙ (λ j. to_z w16 (high j * 256 + low j)) ∙ sym (sample_at (length c.args.soft.now) c.loop-i.i c.args.bytes.now (pos 0) c.requires (omega arith))))
    c.loop-i.invariant

pub returns : goal.returns
returns c =
    let n = samples-length (length c.args.soft.now) c.args.bytes.now c.requires in
    all_taken soft_of (samples c.args.bytes.now) c.loop-i.soft c.loop-i.i (omega arith) (omega arith) c.loop-i.invariant
