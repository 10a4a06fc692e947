-- One equation more, and at the end the first polynomial that is left.
use Rattle.std.proofs.Common.{◌≡◌, ◌+◌, ◌<◌, [], length, take, sym, ap, ◌∙◌, subst, arith, rules}
use Rattle.std.proofs.lemmas.List.{length-take-le, get_or-take}
use Rattle.outer.specs.declared.lanes.Row.{Row}
use Rattle.outer.specs.Cutting.{Cut, Annihilator, polynomial}
use Rattle.outer.proofs.Cuts.{are_from_start, cut_powers, cut_same, cut_annihilates}
use Rattle.outer.proofs.locator.annihilator.Goals as goal

pub loop-j-init : goal.loop-j-init
loop-j-init g c =
    let field = c.args.field.now in
    let f = g.F.Field.meaning field in
    let e = c.args.e in
    let s = c.args.syndromes.now in
    let ps = c.powers.result in
    let none : Row = record { lanes = [] } in
    let is = c.truncate.ensures.items ∙ ap (take (e + 1)) c.from-polynomials.ensures.0 in
    let long : length ps ≡ 17 = sym (ap length c.from-polynomials.ensures.0) ∙ c.from-polynomials.ensures.1 in
    let size : length (take (e + 1) ps) ≡ e + 1 = length-take-le (e + 1) ps (omega arith) in (
      subst (λ qs. Cut f e s 0 (length qs) qs) (sym is)
          (subst (λ n. Cut f e s 0 n (take (e + 1) ps)) (sym size)
          (cut_same f e s 0 (e + 1) ps (take (e + 1) ps) (λ b h. ap (λ (r : Row). r.lanes) (sym (get_or-take (e + 1) ps b none h))) (cut_powers f e s ps (omega arith) c.powers.ensures))),
      are_from_start f s c.lane_multiples-equation.result.rows (c.lane_multiples-equation.ensures f (g.met.F.Field.rule field) c.scales-scales.ensures),
    )

pub loop-j-preserved : goal.loop-j-preserved
loop-j-preserved g c =
    let field = c.args.field.now in
    let f = g.F.Field.meaning field in
    let s = c.args.syndromes.now in
    let j = c.loop-j._j in
    let (cut, are) = c.loop-j.invariant in
    (c.cut.ensures c.args.e s j (omega arith) c.fits-syndromes c.scales-scales.ensures are cut, c.next_lanes-equation.ensures f s j (g.met.F.Field.rule field) (omega arith) are)

pub bounds-as_slice-0 : goal.bounds-as_slice-0
bounds-as_slice-0 g c =
    let some : 0 < length c.as_slice.result.now = omega (arith, ap length c.as_slice.ensures.value, c.loop-j.invariant.0.left) in
    search rules

pub returns : goal.returns
returns g c =
    let field = c.args.field.now in
    let ps = c.loop-j.polynomials.items in
    subst (λ l. Annihilator (g.F.Field.meaning field) c.args.e c.args.syndromes.now (polynomial l 0)) (sym c.as_slice.ensures.value)
    (cut_annihilates (g.F.Field.meaning field) (g.met.F.Field.rule field) c.args.e c.args.syndromes.now c.loop-j._j (length ps) ps (omega arith) (omega arith)
    c.fits-syndromes c.loop-j.invariant.0)
