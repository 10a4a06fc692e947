-- The steps that were run are right for the readings.
use Rattle.std.proofs.Common.{arith}
use Rattle.line.proofs.Choosing.{went_from_ran}
use Rattle.line.proofs.reading.Received.run_steps.Goals as goal

pub returns : goal.returns
returns g c = went_from_ran c.requires.same (omega arith) c.fill_costs.ensures.priced c.run.ensures.ran
