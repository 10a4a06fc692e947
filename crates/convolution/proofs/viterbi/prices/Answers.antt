-- What a window and its turned one cost makes the sum of all costs.
use Rattle.std.proofs.Common.{◌-◌, ◌*◌, get_or, ap, ◌∙◌, arith}
use Rattle.convolution.proofs.Pricing.{window_le_all, priced_turns}
use Rattle.convolution.proofs.viterbi.prices.Goals as goal

pub turned-requires : goal.turned-requires
turned-requires c s h =
    omega (arith, c.price-same.ensures s h, c.total.ensures, window_le_all c.args.generators.now.rate c.args.c (2 * s))

pub returns : goal.returns
returns c =
    let same = c.price-same.result in
    priced_turns c.args.generators.now.rate c.args.c same c.turned.result c.price-same.ensures (λ s h. c.turned.ensures s h ∙ ap (λ v. v - get_or same s 0) c.total.ensures)
