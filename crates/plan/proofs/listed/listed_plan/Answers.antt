use Rattle.std.proofs.Common.{Some, None, ap, ◌∙◌, ◌%◌}
use Rattle.limits.specs.Limits.{within, data_length}
use Rattle.plan.specs.Listed.{table}
use Rattle.plan.proofs.Table.{good_listed, listed_found}
use Rattle.plan.proofs.listed.listed_plan.Goals as goal

pub returns-in_err-numbers : goal.returns-in_err-numbers
unfolding table
returns-in_err-numbers c = rw c.from_residual.ensures (listed_found c.args.number None c.in_err-numbers.ensures)

pub in_units-requires : goal.in_units-requires
unfolding table
in_units-requires c =
    let row = c.in_ok-numbers.field-0.now in
    let good = good_listed c.args.number row c.in_ok-numbers.ensures in
    (ap within c.into.ensures ∙ good.inside, (good.unit, ap (λ p. data_length p % row.2) c.into.ensures ∙ good.whole))

pub returns : goal.returns
unfolding table
returns c =
    (λ i. Some (record { numbers = (c.in_units.ensures.0 ∙ c.into.ensures) i; unit = c.in_units.ensures.1 i }))
    ∙ listed_found c.args.number (Some c.in_ok-numbers.field-0.now) c.in_ok-numbers.ensures
