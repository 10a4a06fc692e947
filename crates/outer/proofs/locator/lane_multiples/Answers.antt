-- Each row holds the products of all lanes by its scale.
use Rattle.std.proofs.Common.{◌^◌, [], get_or, ◌∙◌, rules}
use Rattle.std.proofs.lemmas.Nat.{pow_below}
use Rattle.outer.specs.declared.lanes.Row.{Row}
use Rattle.outer.specs.Lanes.{lane, Times}
use Rattle.outer.specs.Cutting.{always}
use Rattle.outer.proofs.Cuts.{vector_fits}
use Rattle.outer.proofs.Filling.{filled}
use Rattle.outer.proofs.locator.lane_multiples.Goals as goal

pub returns : goal.returns
returns c f rule are =
    let small = (vector_fits c.args.v c.fits-v).small in
    let products = filled _ _ (λ i (row : Row). Times (get_or c.args.scales.now i (record { rows = [] })).rows (lane c.args.v) row.lanes) 8 (λ i y q h call. search rules) c.from_fn.result
    (record { lanes = [] }) c.from_fn.ensures.items in
    record {
      bytes = λ l h. small l;
      each = λ i l hi hl. products i hi f (always (2 ^ i)) rule (are i hi) l hl ∙ rule.mul_comm (2 ^ i) (lane c.args.v l) (pow_below i 8 hi) (small l);
    }
