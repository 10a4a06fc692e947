-- One lane is written.
use Rattle.outer.proofs.Cuts.{power-written}
use Rattle.outer.proofs.locator.power.Goals as goal

pub returns : goal.returns
returns c = power-written c.args.b c.requires
