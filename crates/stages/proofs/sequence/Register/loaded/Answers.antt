-- The seed turned round, without the bit that is not part of it, is the register loaded.
use Rattle.std.proofs.Common.{◌/◌, sym, subst}
use Rattle.stages.specs.Sequence.{Holds, loaded}
use Rattle.stages.specs.Registers.{loaded_holds, lowest_held}
use Rattle.stages.proofs.sequence.Register.loaded.Goals as goal

pub returns : goal.returns
returns c = lowest_held (subst (λ r. Holds (r / 2) (loaded c.args.seed)) (sym c.reverse_bits.ensures) (loaded_holds c.args.seed))
