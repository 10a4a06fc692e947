-- Each answer for its reason, and the one list of bytes that the text says.
use Rattle.hex_text.specs.declared.HexError.TheVariants.{NotADigit}
use Rattle.hex_text.proofs.Saying.{refused_memory}
use Rattle.hex_text.proofs.parse.Goals as goal

pub returns-in-Some : goal.returns-in-Some
returns-in-Some c = record {
  answers = c.in-Some.ensures;
  reads = λ bs said. refused_memory c.args.text.now bs (NotADigit c.in-Some.place) said c.in-Some.ensures;
}
