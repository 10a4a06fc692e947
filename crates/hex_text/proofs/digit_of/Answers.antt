-- The value that the library gives a digit to the base sixteen is the one defined.
use Rattle.std.proofs.Common.{arith}
use Rattle.std.proofs.lemmas.Bool.Decides.{nat_tests}
use Rattle.hex_text.specs.Digits.{digit}
use Rattle.hex_text.proofs.digit_of.Goals as goal

pub returns-clause-value : goal.returns-clause-value
unfolding digit
returns-clause-value c = grind (arith, nat_tests)
