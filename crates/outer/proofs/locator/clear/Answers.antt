-- One polynomial more comes forward, cleared.
use Rattle.std.proofs.Common.{ℕ, ◌+◌, ◌≤◌, ◌≢◌, List, [], ap, ◌∙◌, subst, arith, length-set, get_or-set_other}
use Rattle.outer.specs.declared.lanes.Row.{Row}
use Rattle.outer.specs.Cutting.{polynomial, Sum, factor}
use Rattle.outer.proofs.Cuts.{set_more}
use Rattle.outer.proofs.locator.clear.Goals as goal

pub loop-c-preserved : goal.loop-c-preserved
loop-c-preserved g c =
    let field = c.args.field.now in
    let f = g.F.Field.meaning field in
    let rule = g.met.F.Field.rule field in
    let ps = c.args.polynomials.now in
    let qs = c.loop-c.polynomials in
    let i = c.loop-c.c in
    let row : Row = record { lanes = c.cleared-lanes.result } in
    let none : Row = record { lanes = [] } in
    let p = polynomial ps c.args.b in (
      length-set qs i row ∙ c.loop-c.invariant.0,
      λ k h. let other : k ≢ i = omega arith in ap (λ (r : Row). r.lanes) (get_or-set_other qs i k row none other) ∙ c.loop-c.invariant.1 k h,
      λ k h. let other : k ≢ i = omega arith in ap (λ (r : Row). r.lanes) (get_or-set_other qs i k row none other) ∙ c.loop-c.invariant.2 k (omega arith),
      λ s j scales are.
          set_more (λ (k : ℕ) (r : Row). c.args.b ≤ k → Sum f (factor f s j p (polynomial ps (k + 1))) p (polynomial ps (k + 1)) r.lanes) none qs i row (omega (arith, c.loop-c.invariant.0))
          (λ h. subst (λ (v : List ℕ). Sum f (factor f s j p v) p v row.lanes) (c.loop-c.invariant.2 (i + 1) (omega arith))
          (c.cleared-lanes.ensures s j p are (c.lane_multiples-multiples.ensures f rule scales) (c.inverse-inverse.ensures ∙ ap f.inv (c.applied_to.ensures f s j rule are))))
          (c.loop-c.invariant.3 s j scales are),
    )
