-- The place is the one that the helical rule gives.
use Rattle.std.proofs.Common.{◌+◌, ◌*◌, ◌%◌, sym, ap₂, ◌∙◌}
use Rattle.readings.specs.Winding.{wound-at}
use Rattle.readings.proofs.helical.HelicalArrange.place.Goals as goal

pub returns : goal.returns
returns c =
    let grid = c.args.self.now.grid in
    ap₂ (λ a b. b * ((3 * c.args.column + c.args.row) % a) + c.args.column) c.rows.ensures c.columns.ensures ∙ sym (wound-at grid.rows grid.columns c.args.row c.args.column c.requires.1)
