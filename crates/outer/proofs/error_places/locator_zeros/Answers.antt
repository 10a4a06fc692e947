-- A sum of terms that is 0 is one place more, and each term goes on to the next place.
use Rattle.std.proofs.Common.{◌≡◌, ◌+◌, ◌-◌, ◌*◌, length, filter, sym, ap, ◌∙◌, arith}
use native.Mathlib.Nat.{sub-zero}
use Rattle.std.specs.List.{range_with_len}
use Rattle.std.proofs.lemmas.Bool.{eq-eqb, ne_eqb}
use Rattle.galois.specs.Bytes.{power}
use Rattle.outer.specs.Decoding.{locator, is_located, locator_zeros}
use Rattle.outer.specs.Lanes.{lane}
use Rattle.outer.proofs.Terms.{listed_push, listed_stay, term, term_halved, terms_sum}
use Rattle.outer.proofs.error_places.locator_zeros.Goals as goal
use Rattle.outer.proofs.error_places.locator_zeros.Goals.{then-terms-eq0, else-terms-eq0}

pub loop-p-init : goal.loop-p-init
loop-p-init g c =
    let field = c.args.field.now in
    let f = g.F.Field.meaning field in
    let rule = g.met.F.Field.rule field in
    let n = c.args.n in
    let cs = c.args.polynomial.now in (
      λ few. c.new-places.ensures,
      λ h l k.
          c.times-terms.ensures f (lane c.powers-2.result) rule (c.lane_multiples-first.ensures f rule c.scales-scales.ensures) l k
          ∙ ap (λ x. f.mul x (lane cs l)) (c.powers-2.ensures l k)
          ∙ ap (λ m. term f rule cs m l) (sym (sub-zero (n - 1))),
    )

pub loop-p-preserved : goal.loop-p-preserved
unfolding is_located locator
loop-p-preserved g c =
    let field = c.args.field.now in
    let f = g.F.Field.meaning field in
    let rule = g.met.F.Field.rule field in
    let cs = c.args.polynomial.now in
    let n = c.args.n in
    let p = c.loop-p.p in
    let t = is_located f n cs in
    let sum = terms_sum f rule (n - 1 - p) cs c.loop-p.terms c.fits-polynomial (c.loop-p.auto.terms.0 ∙ sym c.told-polynomial)
    (λ l h. c.loop-p.invariant.1 c.loop-p-test.true l (omega arith)) in (
      elim c.if-terms-eq0.branch [
        | then-terms-eq0 w ↦ λ few. w.places-is ∙ listed_push t p c.loop-p.places w.push.new.self c.loop-p.invariant.0 (eq-eqb _ _ (sym sum ∙ w.if-terms-eq0.true)) w.push.ensures.more few
        | else-terms-eq0 w ↦ λ few. w.places-is ∙ listed_stay t p c.loop-p.places c.loop-p.invariant.0 (ne_eqb _ _ (λ e. w.if-terms-eq0.false (sum ∙ e))) few
      ],
      λ h l k.
          let one_less : n - 1 - p ≡ n - 1 - (p + 1) + 1 = omega arith in
          c.times-terms-in-loop-p.ensures f (lane c.powers.result) rule (c.lane_multiples-onward.ensures f rule c.scales-scales.ensures) l k
          ∙ ap (λ x. f.mul x (lane c.loop-p.terms l)) (c.powers.ensures l k)
          ∙ ap (f.mul (power f (254 * l))) (c.loop-p.invariant.1 c.loop-p-test.true l k ∙ ap (λ m. term f rule cs m l) one_less)
          ∙ term_halved f rule cs (n - 1 - (p + 1)) l (c.fits-polynomial l),
    )

pub returns : goal.returns
unfolding locator_zeros
returns g c few =
    let f = g.F.Field.meaning c.args.field.now in
    let t = is_located f c.args.n c.args.polynomial.now in
    let end : c.loop-p.p ≡ c.args.n = omega arith in
    let whole = ap (λ m. filter t (range_with_len 0 m)) end in
    c.loop-p.invariant.0 (omega (arith, ap length whole)) ∙ whole
