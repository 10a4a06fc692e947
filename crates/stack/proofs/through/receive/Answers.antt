use Rattle.std.proofs.Common.{arith}
use Rattle.stack.specs.Stacking.{stacked_gave, stacked_stopped}
use Rattle.stack.proofs.through.receive.Goals as goal

pub returns-in_ok-count-in-Ok : goal.returns-in_ok-count-in-Ok
returns-in_ok-count-in-Ok g c = λ fit meets.
    stacked_gave (g.met.S.Stage.rule _) meets ((g.met.C.Carrier.rule _ fit).receives _ (omega (arith, c.requires))) (omega (arith, c.requires))
    (c.in-Ok.ensures fit) c.decode.ensures c.in_ok-count-in-Ok.was c.saturating_add.ensures

pub returns-in_err-count-in-Ok : goal.returns-in_err-count-in-Ok
returns-in_err-count-in-Ok g c = λ fit meets.
    stacked_stopped (g.met.S.Stage.rule _) meets ((g.met.C.Carrier.rule _ fit).receives _ (omega (arith, c.requires))) (omega (arith, c.requires))
    (c.in-Ok.ensures fit) c.decode.ensures c.in_err-count-in-Ok.was c.from_residual.ensures.1
