use Rattle.std.proofs.Common.{sym, ◌∙◌}
use Rattle.plan.proofs.Carriers.{bare_made}
use Rattle.limits.proofs.Within.{sound}
use Rattle.plan.proofs.plan.Plan.bare.Goals as goal

pub returns : goal.returns
returns c =
    let p = c.args.self.now.numbers in
    bare_made p (sound p c.args.self.now.within) (sym c.is_bare.ensures ∙ c.if-not-is_bare.false) c.coded_length.ensures c.new.result c.new.ensures
