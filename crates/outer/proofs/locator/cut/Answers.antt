-- A polynomial that fails the equation goes.
use Rattle.std.proofs.Common.{◌≡◌, ◌+◌, ◌-◌, ◌<◌, [], length, take, drop, sym, ap, ◌∙◌, subst, arith, rules}
use Rattle.std.specs.List.{refill}
use Rattle.std.proofs.lemmas.List.{length-take-le, get_or-take, take-append-le, take_all}
use Rattle.outer.specs.declared.lanes.Row.{Row}
use Rattle.outer.specs.Cutting.{Cleared, Cut, Fails}
use Rattle.outer.proofs.Cuts.{cut_cleared, cut_same}
use Rattle.outer.proofs.locator.cut.Goals as goal

pub returns-in-Some : goal.returns-in-Some
returns-in-Some g c e s j he hs scales are cut =
    let field = c.args.field.now in
    let f = g.F.Field.meaning field in
    let rule = g.met.F.Field.rule field in
    let ps = c.args.polynomials.now.items in
    let qs = c.clear.new.polynomials in
    let none : Row = record { lanes = [] } in
    let n = length ps in
    let size : length qs ≡ n = search rules in
    let whole : refill n ps qs ≡ qs = take-append-le n qs (drop (length qs) ps) (omega arith) ∙ take_all n qs (omega arith) in
    let is : c.pop.new.self.items ≡ take (n - 1) qs = c.pop.ensures.rest ∙ ap (λ l. take (length l - 1) l) whole ∙ ap (λ m. take (m - 1) qs) size in
    let long : n - 1 ≡ length (take (n - 1) qs) = sym (length-take-le (n - 1) qs (omega arith)) in
    let (inside, fails) = subst (λ l. (c.in-Some.b < length l) × Fails c.args.equation.now.rows l (length l) c.in-Some.b) c.as_slice.ensures.value c.in-Some.ensures in
    let left : Cut f e s (j + 1) (n - 1) qs
    = cut_cleared f rule e s j n c.in-Some.b ps qs he hs inside (fails f s j rule are)
    (subst (λ l. Cleared f s j (length l) c.in-Some.b l qs) c.as_mut_slice.ensures.value (c.clear.ensures s j scales are)) cut in
    subst (λ l. Cut f e s (j + 1) (length l) l) (sym is)
    (subst (λ m. Cut f e s (j + 1) m (take (n - 1) qs)) long
    (cut_same f e s (j + 1) (n - 1) qs (take (n - 1) qs) (λ b h. ap (λ (r : Row). r.lanes) (sym (get_or-take (n - 1) qs b none h))) left))
