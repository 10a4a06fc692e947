-- One place more is corrected and counted.
use Rattle.std.proofs.Common.{◌≡◌, ◌<◌, length, get_or, sym, refl, ap, ◌∙◌, arith}
use Rattle.outer.specs.Decoding.{error_value, corrected, errors}
use Rattle.outer.proofs.Turns.{corrected_more, errors_one_more, errors_no_more}
use Rattle.outer.proofs.correction.correct.Goals as goal
use Rattle.outer.proofs.correction.correct.Goals.{then-value-ne0, else-value-ne0}

pub loop-place-init : goal.loop-place-init
unfolding corrected errors
loop-place-init g c = (refl, refl, omega arith)

pub loop-place-preserved : goal.loop-place-preserved
loop-place-preserved g c =
    let w = c.args.word.now in
    let zs = c.args.places.now in
    let same = c.as_slice-place-items.ensures.value in
    let v = error_value (g.F.Field.meaning c.args.field.now) c.args.r (length w) zs c.args.syndromes.now in
    let i = c.loop-place.place-index in
    let p = c.from-place.result in
    let x = c.value-value.result in
    let known : x ≡ v p = c.value-value.ensures ∙ ap (λ l. error_value (g.F.Field.meaning c.args.field.now) c.args.r (length w) l c.args.syndromes.now p) c.locate.ensures.places in
    let inside : i < length zs = omega (arith, ap length same, c.loop-place-test.true) in
    let is : get_or zs i 0 ≡ p = sym (c.from-place.ensures ∙ ap (λ l. get_or l i 0) same) in (
      corrected_more v w zs i p x inside is known c.loop-place.word c.loop-place.invariant.0,
      elim c.if-value-ne0.branch [
        | then-value-ne0 u ↦ u.count-is ∙ errors_one_more v w zs i p x inside is known c.loop-place.count u.if-value-ne0.true c.loop-place.invariant.1
        | else-value-ne0 u ↦ u.count-is ∙ errors_no_more v w zs i p x inside is known c.loop-place.count u.if-value-ne0.false c.loop-place.invariant.1
      ],
      elim c.if-value-ne0.branch [ then-value-ne0 u ↦ omega (arith, u.count-is, c.loop-place.invariant.2) | else-value-ne0 u ↦ omega (arith, u.count-is, c.loop-place.invariant.2) ],
    )
