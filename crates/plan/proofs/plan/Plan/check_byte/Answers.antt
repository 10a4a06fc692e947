use Rattle.std.proofs.Common.{[], ◌∷◌, ap, ◌∙◌, arith}
use Rattle.stages.specs.Checking.{checking}
use Rattle.plan.proofs.Coders.{check_made, check_there}
use Rattle.limits.proofs.Within.{sound, data_high}
use Rattle.plan.proofs.plan.Plan.check_byte.Goals as goal

pub returns : goal.returns
returns c =
    let p = c.args.self.now.numbers in
    let s = sound p c.args.self.now.within in
    let n = c.body_length.ensures in
    check_made c.new.result c.new.ensures (omega (arith, s.stages.body)) (omega (arith, data_high p s))
    ∙ ap (λ m. checking m ∷ []) n ∙ check_there p c.if-self-eq0.false
