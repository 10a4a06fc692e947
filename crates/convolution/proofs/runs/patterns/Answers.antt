-- The patterns of each rate.
use Rattle.convolution.proofs.Pattern.{pattern_at}
use Rattle.convolution.proofs.runs.patterns.Goals as goal

pub returns-in-Half : goal.returns-in-Half
returns-in-Half c = pattern_at c.in-Half.is

pub returns-in-TwoThirds : goal.returns-in-TwoThirds
returns-in-TwoThirds c = pattern_at c.in-TwoThirds.is

pub returns-in-ThreeQuarters : goal.returns-in-ThreeQuarters
returns-in-ThreeQuarters c = pattern_at c.in-ThreeQuarters.is

pub returns-in-Third : goal.returns-in-Third
returns-in-Third c = pattern_at c.in-Third.is
