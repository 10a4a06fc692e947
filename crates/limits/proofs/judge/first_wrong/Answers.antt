use Rattle.std.proofs.Common.{sym, ap, ◌∙◌, subst, Ok, Err, ◌≡◌}
use Rattle.std.proofs.lemmas.Result.{err_from_is_err_and}
use Rattle.limits.specs.Limits.{first_wrong, judged, stage_limits, carrier_limits}
use Rattle.limits.proofs.Within.{first_by_code, first_by_stages, first_by_carrier}
use Rattle.limits.proofs.judge.first_wrong.Goals as goal

pub returns-in_err-coded : goal.returns-in_err-coded
returns-in_err-coded c =
    let e = err_from_is_err_and c.from_residual.result c.from_residual.ensures.1 in
    rw (e.1, e.2) (ap judged (sym (first_by_code c.args.p _ c.in_err-coded.ensures)))

pub returns-in_err-judge_stages : goal.returns-in_err-judge_stages
returns-in_err-judge_stages c =
    let e = err_from_is_err_and c.from_residual-in_err-judge_stages.result c.from_residual-in_err-judge_stages.ensures.1 in
    let coded = c.in_ok-coded.ensures in
    rw (e.1, e.2) (ap judged (sym (first_by_stages c.args.p _ coded.1 (subst (λ p. Err c.in_err-judge_stages.field-0.0 ≡ judged (first_wrong (stage_limits p))) coded.0 c.in_err-judge_stages.ensures))))

pub returns : goal.returns
returns c =
    let coded = c.in_ok-coded.ensures in
    c.judge_carrier.ensures
    ∙ ap (λ p. judged (first_wrong (carrier_limits p))) coded.0
    ∙ ap judged (sym (first_by_carrier c.args.p coded.1 (subst (λ p. Ok _ ≡ judged (first_wrong (stage_limits p))) coded.0 c.in_ok-judge_stages.ensures)))
