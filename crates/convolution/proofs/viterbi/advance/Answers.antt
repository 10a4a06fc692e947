-- The costs stay near to one another and leave room for one more step.
use Rattle.std.proofs.Common.{ℕ, ◌+◌, ◌*◌, arith}
use Rattle.convolution.specs.Slots.{window_cost}
use Rattle.convolution.proofs.Pricing.{window_le}
use Rattle.convolution.proofs.Refine.{costs_room, near_after, costs_after}
use Rattle.convolution.proofs.viterbi.advance.Goals as goal

pub select-d-requires : goal.select-d-requires
select-d-requires c =
    let t = c.prices.ensures in
    let below = λ (w : ℕ). window_le c.args.generators.now.rate c.args.c w c.requires in
    record { small = costs_room c.metrics.invariant; few = (λ s h. omega (arith, t.none s h, below (2 * s)), λ s h. omega (arith, t.oldest s h, below (2 * s + 1))) }

pub rebase-requires : goal.rebase-requires
rebase-requires c = near_after c.args.generators.now.rate c.args.c c.requires c.metrics.invariant (c.select-d.ensures (window_cost c.args.generators.now.rate c.args.c) c.prices.ensures)

pub invariant_of-result : goal.invariant_of-result
invariant_of-result c =
    costs_after c.args.generators.now.rate c.args.c c.requires c.metrics.invariant (c.select-d.ensures (window_cost c.args.generators.now.rate c.args.c) c.prices.ensures) c.rebase.result.0 c.rebase.result.1 c.rebase.ensures.long c.rebase.ensures.lower
