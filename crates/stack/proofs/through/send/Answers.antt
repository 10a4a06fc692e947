use Rattle.std.proofs.Common.{arith}
use Rattle.stack.specs.Stacking.{stacked-sent}
use Rattle.stack.proofs.through.send.Goals as goal

pub returns : goal.returns
returns g c = λ fit meets.
    stacked-sent (g.met.S.Stage.rule _) meets (omega (arith, c.requires)) (omega (arith, c.requires)) c.encode.ensures (c.send.ensures fit)
