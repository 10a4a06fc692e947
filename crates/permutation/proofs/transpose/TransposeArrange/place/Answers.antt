-- The place is the one that the block rule gives.
use Rattle.std.proofs.Common.{◌+◌, ◌*◌, sym, ap, ◌∙◌}
use Rattle.permutation.specs.Turning.{turned-at}
use Rattle.permutation.proofs.transpose.TransposeArrange.place.Goals as goal

pub returns : goal.returns
returns c =
    let grid = c.args.self.now.grid in
    ap (λ n. c.args.column * n + c.args.row) c.rows.ensures ∙ sym (turned-at grid.rows grid.columns c.args.row c.args.column c.requires.1)
