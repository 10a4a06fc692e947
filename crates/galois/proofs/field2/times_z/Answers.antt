-- `times_z` shifts a byte, and takes the polynomial off where a bit leaves it.
use Rattle.std.proofs.Common.{arith}
use Rattle.galois.specs.Shifts.{times_z_byte}
use Rattle.galois.proofs.field2.times_z.Goals as goal

pub returns : goal.returns
returns c = times_z_byte 0x87 c.args.a (omega arith)
