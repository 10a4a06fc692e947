use Rattle.std.proofs.Common.{[], ◌∷◌, refl}
use Rattle.convolution.proofs.Sending.{ran_one}
use Rattle.convolution.proofs.Windows.{value_one}
use Rattle.convolution.proofs.encoder.Encoder.step.Goals as goal

pub returns : goal.returns
returns c = record { count = c.run.ensures.count; stepped = λ rate w a. ran_one w (c.run.ensures.ran rate w (c.args.bit ∷ []) a (value_one c.args.bit) refl) }
