use Rattle.std.proofs.Common.{refl}
use Rattle.convolution.specs.Code.{window}
use Rattle.convolution.specs.Encoding.{newest}
use Rattle.convolution.proofs.encoder.Encoder.new.Goals as goal

pub returns : goal.returns
unfolding newest window
returns c = record { same = refl; held = refl; turned = refl }
