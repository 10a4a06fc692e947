-- `power` reads the table of powers, which is computed once more to compare.
use Rattle.galois.specs.Polynomials.{times_z}
use Rattle.galois.proofs.Tables.{walk, powers, powers-at}
use Rattle.galois.proofs.field1.Field1Field.power.Goals as goal

pub returns : goal.returns
unfolding walk powers times_z
returns c = powers-at c.args.e
