use Rattle.std.proofs.Common.{refl}
use Rattle.convolution.specs.Code.{zeros}
use Rattle.convolution.specs.Encoding.{value}
use Rattle.convolution.proofs.encoder.Encoder.tail.Goals as goal

pub returns : goal.returns
unfolding value
returns c = record { count = c.run.ensures.count; ran = λ rate w a. c.run.ensures.ran rate w (zeros 6) a refl refl }
