-- One power more.
use Rattle.std.proofs.Common.{◌≡◌, ◌*◌, replicate, refl, ap, ◌∙◌, arith, length-set, below_none}
use Rattle.galois.specs.Bytes.{power}
use Rattle.outer.specs.Lanes.{lane}
use Rattle.outer.proofs.Rows.{lane_more}
use Rattle.outer.proofs.Terms.{power_none, power_more}
use Rattle.outer.proofs.error_places.powers.Goals as goal

pub loop-power-init : goal.loop-power-init
loop-power-init g c =
    let field = c.args.field.now in
    let f = g.F.Field.meaning field in
    let m = c.args.m in
    (refl, power_none f (g.met.F.Field.rule field) m, below_none (λ k. lane (replicate 32 0) k ≡ power f (m * k)))

pub loop-power-preserved : goal.loop-power-preserved
loop-power-preserved g c =
    let field = c.args.field.now in
    let f = g.F.Field.meaning field in
    let m = c.args.m in
    let i = c.loop-power.power-index in
    let next = c.loop-power.next in (
      length-set c.loop-power.power-items i next ∙ c.loop-power.invariant.0,
      c.mul-next.ensures ∙ ap (f.mul next) c.power-factor.ensures ∙ power_more f (g.met.F.Field.rule field) m i next c.loop-power.invariant.1,
      lane_more (λ k. power f (m * k)) c.loop-power.power-items i next (omega (arith, c.loop-power.invariant.0, c.loop-power-test.true)) c.loop-power.invariant.1 c.loop-power.invariant.2,
    )
