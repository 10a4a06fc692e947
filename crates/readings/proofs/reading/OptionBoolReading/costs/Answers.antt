-- What a hard reading costs.
use Rattle.readings.specs.Costs.{hard_costs, absent_costs}
use Rattle.readings.proofs.reading.OptionBoolReading.costs.Goals as goal

pub returns-in-Some : goal.returns-in-Some
returns-in-Some c = rw c.in-Some.is (hard_costs c.in-Some.mark)

pub returns-in-None : goal.returns-in-None
returns-in-None c = rw c.in-None.is absent_costs
