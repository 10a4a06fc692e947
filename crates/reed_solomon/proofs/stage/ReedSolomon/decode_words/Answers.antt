-- Each chunk is the next word, and each turn reads one word more.
use Rattle.std.proofs.Common.{◌≡◌, ◌+◌, ◌-◌, ◌*◌, ◌≤◌, length, take, None, Ok, refl, ◌∙◌, subst, zero-mul, arith}
use borrow.Rule.Slice.PartMut.{put_mid}
use Rattle.std.proofs.lemmas.Result.{err_from_is_err_and}
use Rattle.outer.specs.Nearest.{nearest}
use Rattle.reed_solomon.specs.Coding.{words_decoded}
use Rattle.reed_solomon.specs.WordByWord.{Corrects, WordRead}
use Rattle.reed_solomon.proofs.Judged.{limits_of}
use Rattle.reed_solomon.proofs.Progress.{NextWord, next_word, refusal, all_read, decoded_more, decoded_all, decoded_stops, count_small, long_part, within}
use Rattle.reed_solomon.proofs.stage.ReedSolomon.decode_words.Given as given
use Rattle.reed_solomon.proofs.stage.ReedSolomon.decode_words.Goals.{In_ok-count}
use Rattle.reed_solomon.proofs.stage.ReedSolomon.decode_words.Goals as goal

pub loop-w-init : goal.loop-w-init
unfolding words_decoded
loop-w-init g c =
    rw (c.into_iter-w-iterator.ensures.into_iter_gives, c.enumerate-w-items.ensures.source, c.enumerate-w-items.ensures.count, zero-mul c.args.self.now.length, zero-mul (c.args.self.now.length + 2 * c.args.self.now.errors))
    (c.chunks_exact_mut.ensures.size, omega arith, c.chunks_exact_mut.ensures.rest, refl)

pub returns-in_err-count : goal.returns-in_err-count
returns-in_err-count g c =
    let s = c.args.self.now in
    let w = c.loop-w.w-iterator.count in
    let step = c.in-Some.ensures.steps in
    let inv = c.loop-w.invariant in
    let next = next_word (s.length + 2 * s.errors) w s.words c.args.from.now c.in-Some.word.now _ (omega (arith, s.data_low)) c.requires.lengths.0 inv.2 step.0.1.0 (step.0.1.1 ∙ inv.0) in
    let f = g.F.Field.meaning s.field in
    let none = c.in_err-count.ensures.ok_part in
    let missing = subst (λ o. WordRead f s.root s.length s.errors c.in-Some.word.now o c.decode_word.new.data) none c.decode_word.ensures in
    let refused = err_from_is_err_and c.from_residual.result c.from_residual.ensures.1 in
    rw (refused.1, refused.2, refusal none c.in_err-count.ensures.value, step.1)
    (decoded_stops f s.root s.length s.errors s.words w c.args.from.now _ next.below inv.3 (subst (λ y. nearest f s.root s.length s.errors y ≡ None) next.is missing))

-- the chunk that was read is the next word
next : (g : given.Over) (c : In_ok-count g) → NextWord (c.args.self.now.length + 2 * c.args.self.now.errors) c.loop-w.w-iterator.count c.args.self.now.words c.args.from.now c.in-Some.word.now c.next.new.self.iter.rest.s.now
next g c =
    let s = c.args.self.now in
    let step = c.in-Some.ensures.steps in
    let inv = c.loop-w.invariant in
    next_word (s.length + 2 * s.errors) c.loop-w.w-iterator.count s.words c.args.from.now c.in-Some.word.now _ (omega (arith, s.data_low)) c.requires.lengths.0 inv.2 step.0.1.0 (step.0.1.1 ∙ inv.0)

-- the words so far and this one
read_more : (g : given.Over) (c : In_ok-count g)
    → words_decoded (g.F.Field.meaning c.args.self.now.field) c.args.self.now.root c.args.self.now.length c.args.self.now.errors (c.loop-w.w-iterator.count + 1) c.args.from.now
    ≡ Ok (record {
      body = take ((c.loop-w.w-iterator.count + 1) * c.args.self.now.length)
          (put_mid (c.loop-w.w-iterator.count * c.args.self.now.length) ((c.loop-w.w-iterator.count + 1) * c.args.self.now.length - c.loop-w.w-iterator.count * c.args.self.now.length) c.loop-w.to c.decode_word.new.data);
      count = c.loop-w.count + c.in_ok-count.field-0;
    })
read_more g c =
    let s = c.args.self.now in
    let w = c.loop-w.w-iterator.count in
    let k = s.length in
    let f = g.F.Field.meaning s.field in
    let read = subst (λ o. WordRead f s.root k s.errors c.in-Some.word.now o c.decode_word.new.data) c.in_ok-count.ensures.ok_part c.decode_word.ensures in
    let room : (w + 1) * k ≤ length c.loop-w.to = omega (arith, within w s.words k (next g c).below) in
    decoded_more f s.root k s.errors w c.args.from.now c.loop-w.to c.decode_word.new.data c.loop-w.count c.in_ok-count.field-0 room
    (c.decode_word.auto.data ∙ long_part k c.in-Some.w c.loop-w.to (rw c.in-Some.ensures.steps.1 room)) c.loop-w.invariant.3
    (subst (λ y. Corrects f s.root k s.errors y c.decode_word.new.data c.in_ok-count.field-0) (next g c).is read)

pub overflow_add-count : goal.overflow_add-count
overflow_add-count g c =
    let s = c.args.self.now in
    omega (arith, count_small _ (g.met.F.Field.rule _) s.root s.words s.length s.errors (limits_of s) (c.loop-w.w-iterator.count + 1) c.args.from.now _ (omega (arith, (next g c).below)) (omega arith) (read_more g c))

pub loop-w-preserved : goal.loop-w-preserved
loop-w-preserved g c =
    let step = c.in-Some.ensures.steps in
    rw (step.2, step.1) (step.0.0 ∙ c.loop-w.invariant.0, omega (arith, (next g c).below), (next g c).left, read_more g c)

pub returns : goal.returns
returns g c =
    let s = c.args.self.now in
    let it = c.loop-w.w-iterator in
    let inv = c.loop-w.invariant in
    decoded_all _ s.root s.length s.errors s.words it.count c.args.from.now c.loop-w.to c.loop-w.count
    (all_read (s.length + 2 * s.errors) it.count s.words c.args.from.now c.requires.lengths.0 inv.2 inv.1 (omega (arith, c.in-None.ensures.steps.0.1.0, inv.0))) (omega arith) inv.3
