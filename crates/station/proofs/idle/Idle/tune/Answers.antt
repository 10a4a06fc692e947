use Rattle.station.proofs.Promising.{promised}
use Rattle.station.proofs.idle.Idle.tune.Goals as goal

pub returns-clause-promise : goal.returns-clause-promise
returns-clause-promise g c = λ fit. promised _ _ (g.met.C.Carrier.rule _ fit)
