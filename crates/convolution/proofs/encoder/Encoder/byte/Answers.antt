use Rattle.std.proofs.Common.{sym, refl, ◌∙◌}
use Rattle.convolution.specs.Code.{bits}
use Rattle.convolution.proofs.Windows.{value-bits}
use Rattle.convolution.proofs.encoder.Encoder.byte.Goals as goal

pub returns : goal.returns
unfolding bits
returns c = record {
  count = c.run.ensures.count;
  ran = λ rate w a. c.run.ensures.ran rate w (bits c.args.byte) a (value-bits c.args.byte ∙ sym c.reverse_bits.ensures) refl;
}
