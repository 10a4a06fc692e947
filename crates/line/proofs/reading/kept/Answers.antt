-- The patterns of each rate.
use Rattle.line.proofs.Stepping.{has_half, has_two_thirds, has_three_quarters, has_third}
use Rattle.line.proofs.reading.kept.Goals as goal

pub returns-in-Half : goal.returns-in-Half
returns-in-Half c = has_half c.args.rate c.args.step c.in-Half.is

pub returns-in-TwoThirds : goal.returns-in-TwoThirds
returns-in-TwoThirds c = has_two_thirds c.args.rate c.args.step c.in-TwoThirds.is

pub returns-in-ThreeQuarters : goal.returns-in-ThreeQuarters
returns-in-ThreeQuarters c = has_three_quarters c.args.rate c.args.step c.in-ThreeQuarters.is

pub returns-in-Third : goal.returns-in-Third
returns-in-Third c = has_third c.args.rate c.args.step c.in-Third.is
