-- One root more.
use Rattle.std.proofs.Common.{◌≡◌, ◌+◌, replicate, refl, ap, ◌∙◌, arith, length-set, below_none}
use Rattle.galois.specs.Bytes.{power}
use Rattle.outer.specs.Lanes.{lane, root}
use Rattle.outer.proofs.Rows.{lane_more}
use Rattle.outer.proofs.Terms.{root_more}
use Rattle.outer.proofs.syndromes.roots.Goals as goal

pub loop-root-init : goal.loop-root-init
loop-root-init g c =
    let f = g.F.Field.meaning c.args.field.now in
    let r = c.args.r in
    let first : r ≡ r + 0 = omega arith in (refl, c.power-next.ensures ∙ ap (power f) first, below_none (λ k. lane (replicate 32 0) k ≡ root f r k))

pub loop-root-preserved : goal.loop-root-preserved
loop-root-preserved g c =
    let field = c.args.field.now in
    let f = g.F.Field.meaning field in
    let r = c.args.r in
    let i = c.loop-root.root-index in
    let next = c.loop-root.next in (
      length-set c.loop-root.root-items i next ∙ c.loop-root.invariant.0,
      c.mul-next.ensures ∙ root_more f (g.met.F.Field.rule field) r i next c.loop-root.invariant.1,
      lane_more (root f r) c.loop-root.root-items i next (omega (arith, c.loop-root.invariant.0, c.loop-root-test.true)) c.loop-root.invariant.1 c.loop-root.invariant.2,
    )
