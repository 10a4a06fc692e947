-- `power` is the product of e factors 02.
use Rattle.galois.specs.Bytes.{power}
use Rattle.galois.proofs.field2.Field2Field.power.Goals as goal

pub returns : goal.returns
unfolding power
returns c = c.raise.ensures
