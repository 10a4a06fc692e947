-- Each polynomial is its power.
use Rattle.std.proofs.Common.{[], rules}
use Rattle.outer.specs.declared.lanes.Row.{Row}
use Rattle.outer.specs.Cutting.{Power}
use Rattle.outer.proofs.Filling.{filled}
use Rattle.outer.proofs.locator.powers.Goals as goal

pub returns : goal.returns
returns c = filled _ _ (λ b (row : Row). Power b row.lanes) 17 (λ i y q h call. search rules) c.from_fn.result (record { lanes = [] }) c.from_fn.ensures.items
