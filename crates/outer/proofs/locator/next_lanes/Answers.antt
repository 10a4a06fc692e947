-- Each row moves on by one lane.
use Rattle.std.proofs.Common.{[], rules}
use Rattle.outer.specs.declared.lanes.Row.{Row}
use Rattle.outer.specs.Cutting.{Moved}
use Rattle.outer.proofs.Cuts.{moved_are}
use Rattle.outer.proofs.Filling.{mapped}
use Rattle.outer.proofs.locator.next_lanes.Goals as goal

pub returns : goal.returns
returns c f s j rule few are =
    let none : Row = record { lanes = [] } in
    moved_are f rule s j c.args.constants.now.rows c.map.result few are
    (mapped _ _ (λ (row next : Row). Moved row.lanes next.lanes) (λ x y q call. search rules) 8 c.args.constants.now.rows c.map.result none none c.map.ensures.items)
