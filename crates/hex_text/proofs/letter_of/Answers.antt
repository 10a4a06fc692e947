-- The digit that the library gives a value to the base sixteen is the one defined.
use Rattle.std.proofs.Common.{arith}
use Rattle.std.proofs.lemmas.Bool.Decides.{nat_tests}
use Rattle.hex_text.specs.Digits.{letter}
use Rattle.hex_text.proofs.letter_of.Goals as goal

pub returns : goal.returns
unfolding letter
returns c = grind (arith, nat_tests)
