-- A pass for each other place.
use Rattle.std.proofs.Common.{◌≡◌, ◌<◌, [], length, get_or, map, take, sym, ap, ◌∙◌, subst, ap₂, arith}
use lib.Bits.{bit_xor}
use lib.ListN.{length-map}
use Rattle.std.proofs.Math.ListN.{get_or-map}
use Rattle.std.proofs.lemmas.List.{take_all}
use Rattle.outer.specs.declared.correction.Located.{Located}
use Rattle.outer.specs.declared.lanes.Multiples.{Multiples}
use Rattle.outer.specs.Cutting.{always}
use Rattle.outer.specs.Lanes.{lane, Are}
use Rattle.outer.specs.Decoding.{locator, others}
use Rattle.outer.proofs.ErrorValues.{Passing, passing_none, passing_other, passing_same, passing_value}
use Rattle.outer.proofs.correction.Errors.value.Goals as goal
use Rattle.outer.proofs.correction.Errors.value.Goals.{then-from-place, else-from-place}

pub loop-other-init : goal.loop-other-init
loop-other-init g c =
    let self = c.args.self.now in
    let field = self.field.now in
    passing_none (g.F.Field.meaning field) (g.met.F.Field.rule field) self.r self.n c.args.place self.syndromes.now c.power-divisor.result c.power-divisor.ensures

pub loop-other-preserved : goal.loop-other-preserved
unfolding locator
loop-other-preserved g c =
    let self = c.args.self.now in
    let field = self.field.now in
    let f = g.F.Field.meaning field in
    let rule = g.met.F.Field.rule field in
    let n = self.n in
    let es = self.located.items in
    let zs = map (λ (e : Located). e.place) es in
    let i = c.loop-other.other-index in
    let q = c.from.result in
    let none : Located = record { place = 0; locator = record { rows = [] } } in
    let same = c.as_slice-other-items.ensures.value in
    let m = (get_or c.as_slice-other-items.result.now i none).locator in
    let inside : i < length zs = omega (arith, ap length same, c.loop-other-test.true, length-map es (λ (e : Located). e.place)) in
    let is : get_or zs i 0 ≡ q = get_or-map (λ (e : Located). e.place) es i none ∙ ap (λ l. (get_or l i none).place) (sym same) ∙ sym c.from.ensures in
    let there = locator f n q in
    let are : Are f (always there) m.rows
    = subst (λ (u : Multiples). Are f (always there) u.rows) (get_or-map (λ (e : Located). e.locator) es i none ∙ ap (λ l. (get_or l i none).locator) (sym same))
    (subst (λ x. Are f (always (locator f n x)) (get_or (map (λ (e : Located). e.locator) es) i none.locator).rows) is (c.requires.located i inside)) in
    let d = c.loop-other.divisor in
    let now = c.if-from-place in
    elim now.branch [
      | then-from-place u ↦ passing_other f rule self.r n c.args.place self.syndromes.now zs c.loop-other.sums now.sums d now.divisor i q inside is c.loop-other.invariant
          u.if-from-place.true c.loop-other.auto.sums.0 c.type_inv.sums.0 (λ l h. ap (λ v. lane v l) u.sums-is ∙ u.pass-sums.ensures f (always there) rule are l h)
          (u.divisor-is ∙ u.mul-divisor.ensures ∙ ap₂ (λ a b. f.mul d (bit_xor a b)) c.power-here.ensures (u.constant.ensures f there rule are))
      | else-from-place u ↦ passing_same f rule self.r n c.args.place self.syndromes.now zs c.loop-other.sums now.sums d now.divisor i q inside is c.loop-other.invariant
          u.if-from-place.false u.sums-is u.divisor-is
    ]

pub returns : goal.returns
returns g c =
    let self = c.args.self.now in
    let field = self.field.now in
    let f = g.F.Field.meaning field in
    let p = c.args.place in
    let s = self.syndromes.now in
    let es = self.located.items in
    let zs = map (λ (e : Located). e.place) es in
    let i = c.loop-other.other-index in
    let whole : take i zs ≡ zs = take_all i zs (omega (arith, ap length c.as_slice-other-items.ensures.value, c.loop-other-test.false, length-map es (λ (e : Located). e.place))) in
    c.mul.ensures ∙ ap (f.mul (lane c.loop-other.sums 0)) c.inverse.ensures
    ∙ passing_value f (g.met.F.Field.rule field) self.r self.n p s zs c.loop-other.sums c.loop-other.divisor
    (subst (λ l. Passing f self.r self.n p (others p l) s c.loop-other.sums c.loop-other.divisor) whole c.loop-other.invariant)
