use Rattle.station.proofs.Sample.{sample_run}
use Rattle.station.proofs.examples.examples_hold.Goals as goal

pub returns : goal.returns
returns c = record { stages = c.examples_hold.ensures; outer_code = c.examples_hold-2.ensures; line = c.examples_hold-3.ensures; station = sample_run }
