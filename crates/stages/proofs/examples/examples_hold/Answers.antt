use Rattle.std.proofs.Common.{[], ◌∷◌, ap}
use Rattle.stages.specs.Remainders.{check_byte_of_01, check_byte_of_02}
use Rattle.stages.specs.Sequences.{randomised-zeros}
use Rattle.stages.proofs.examples.examples_hold.Goals as goal

pub returns : goal.returns
returns c = record {
  check_01 = ap (λ b. 0x01 ∷ b ∷ []) check_byte_of_01;
  check_02 = ap (λ b. 0x02 ∷ b ∷ []) check_byte_of_02;
  sequence = randomised-zeros;
}
