use Rattle.std.proofs.Common.{sym, ap, ◌∙◌}
use Rattle.convolution.specs.declared.rate.Rate.{Rate}
use Rattle.convolution.specs.Code.{marks_before}
use Rattle.convolution.proofs.Pattern.{count_half, count_third, count_two_thirds, count_three_quarters}
use Rattle.convolution.proofs.rate.Rate.mark_count.Goals as goal

pub returns-in-Half : goal.returns-in-Half
returns-in-Half c = count_half c.args.steps ∙ ap (λ (r : Rate). marks_before r c.args.steps) (sym c.in-Half.is)

pub returns-in-TwoThirds : goal.returns-in-TwoThirds
returns-in-TwoThirds c = count_two_thirds c.args.steps ∙ ap (λ (r : Rate). marks_before r c.args.steps) (sym c.in-TwoThirds.is)

pub returns-in-ThreeQuarters : goal.returns-in-ThreeQuarters
returns-in-ThreeQuarters c = count_three_quarters c.args.steps ∙ ap (λ (r : Rate). marks_before r c.args.steps) (sym c.in-ThreeQuarters.is)

pub returns-in-Third : goal.returns-in-Third
returns-in-Third c = count_third c.args.steps ∙ ap (λ (r : Rate). marks_before r c.args.steps) (sym c.in-Third.is)
