use Rattle.std.proofs.Common.{sym, ◌∙◌}
use Rattle.plan.proofs.Carriers.{line_made}
use Rattle.limits.proofs.Within.{sound}
use Rattle.plan.proofs.plan.Plan.line.Goals as goal

pub returns : goal.returns
returns g c =
    let p = c.args.self.now.numbers in
    line_made p (sound p c.args.self.now.within) (sym c.is_bare.ensures ∙ c.if-is_bare.false) c.rate_by_number.ensures c.coded_length.ensures c.new.result c.new.ensures
