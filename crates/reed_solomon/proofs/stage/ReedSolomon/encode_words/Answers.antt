-- Each chunk is the next word, and each turn makes one code word more.
use Rattle.std.proofs.Common.{◌≡◌, ◌+◌, ◌*◌, ◌≤◌, length, refl, ap, ◌∙◌, zero-mul, arith}
use Rattle.outer.specs.Words.{encoded}
use Rattle.reed_solomon.specs.Coding.{words_encoded}
use Rattle.reed_solomon.proofs.Progress.{next_word, all_read, word_filled, encoded_more, encoded_all, long_part, within}
use Rattle.reed_solomon.proofs.stage.ReedSolomon.encode_words.Goals as goal

pub loop-w-init : goal.loop-w-init
unfolding words_encoded
loop-w-init g c =
    rw (c.into_iter-w-iterator.ensures.into_iter_gives, c.enumerate-w-items.ensures.source, c.enumerate-w-items.ensures.count, zero-mul c.args.self.now.length, zero-mul (c.args.self.now.length + 2 * c.args.self.now.errors))
    (c.chunks_exact.ensures.size, omega arith, c.chunks_exact.ensures.rest, refl)

pub loop-w-preserved : goal.loop-w-preserved
loop-w-preserved g c =
    let s = c.args.self.now in
    let k = s.length in
    let n = k + 2 * s.errors in
    let from = c.args.from.now in
    let to = c.loop-w.to in
    let w = c.loop-w.w-iterator.count in
    let bytes = c.in-Some.bytes.now in
    let step = c.in-Some.ensures.steps in
    let inv = c.loop-w.invariant in
    let short : length bytes ≡ k = step.0.1.1 ∙ inv.0 in
    let next = next_word k w s.words from bytes _ s.data_low c.requires.lengths.0 inv.2 step.0.1.0 short in
    let written : (w + 1) * n ≤ length to = omega (arith, within w s.words n next.below) in
    let long : length c.fill_word.new.word ≡ n = c.fill_word.auto.word ∙ long_part n c.in-Some.w to (rw step.1 written) in
    rw (step.2, step.1) (
      step.0.0 ∙ inv.0,
      omega (arith, next.below),
      next.left,
      encoded_more _ s.root k s.errors w from to c.fill_word.new.word written long
          (word_filled _ s.root k s.errors bytes c.fill_word.new.word (g.met.F.Field.rule _) c.requires.rows short long c.fill_word.ensures ∙ ap (encoded _ s.root (2 * s.errors)) next.is) inv.3,
    )

pub returns : goal.returns
returns g c =
    let s = c.args.self.now in
    let it = c.loop-w.w-iterator in
    let inv = c.loop-w.invariant in
    encoded_all _ s.root s.length s.errors s.words it.count c.args.from.now c.loop-w.to (all_read s.length it.count s.words c.args.from.now c.requires.lengths.0 inv.2 inv.1 (omega (arith, c.in-None.ensures.steps.0.1.0, inv.0))) (omega arith) inv.3
