-- One root more is one factor more.
use Rattle.outer.proofs.Generators.{coefficient_more, coefficient_none}
use Rattle.outer.proofs.encoder.generator.Goals as goal

pub loop-j-init : goal.loop-j-init
loop-j-init g c l h = coefficient_none (g.F.Field.meaning c.args.field.now) c.args.r l

pub loop-j-preserved : goal.loop-j-preserved
loop-j-preserved g c =
    let field = c.args.field.now in
    coefficient_more (g.F.Field.meaning field) (g.met.F.Field.rule field) c.args.r c.loop-j.j c.power.result c.loop-j.lower c.multiply_by_root.new.lower
    c.power.ensures c.loop-j.invariant c.multiply_by_root.ensures
