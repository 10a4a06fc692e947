-- The examples, each by the laws of the code.
use Rattle.reed_solomon.proofs.SmallCode.{encodes_01, encodes_02, encodes_80, corrects_01, refuses_01}
use Rattle.reed_solomon.proofs.examples.examples_hold.Goals as goal

pub returns : goal.returns
returns c = record { code_of_01 = encodes_01; code_of_02 = encodes_02; code_of_80 = encodes_80; corrected = corrects_01; refused = refuses_01 }
