-- The examples, each by the laws of its part.
use Rattle.convolution.proofs.Samples.{half_80, three_quarters_80, third_80}
use Rattle.readings.specs.Examples.{samples-read, places_of_four_by_two}
use Rattle.line.proofs.Absent.{absent_read}
use Rattle.line.proofs.examples.examples_hold.Goals as goal

pub returns : goal.returns
returns c = record { half_80 = half_80; three_quarters_80 = three_quarters_80; third_80 = third_80; four_by_two = places_of_four_by_two; samples = samples-read; absent = absent_read }
