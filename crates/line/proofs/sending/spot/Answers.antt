-- The row and the column of a mark, and its place.
use Rattle.std.proofs.Common.{◌≡◌, ◌+◌, ◌*◌, ◌/◌, ◌%◌, ◌<◌, sym, ap, ◌∙◌, subst, div-add-mod'}
use Rattle.readings.specs.Helix.{wound}
use Rattle.readings.specs.Winding.{helix_rearranges}
use Rattle.line.proofs.sending.spot.Goals as goal

pub returns : goal.returns
returns c =
    let r = c.args.rule in
    let i = c.args.i in
    let at : c.place.result ≡ wound r.grid.rows r.grid.columns i =
    c.place.ensures ∙ ap (wound r.grid.rows r.grid.columns) (ap (λ n. i / n * r.grid.columns + i % n) c.columns-columns.ensures ∙ div-add-mod' i r.grid.columns) in
    record { at = at; inside = subst (λ n. n < r.grid.rows * r.grid.columns) (sym at) ((helix_rearranges r.grid.rows r.grid.columns r.grid.tall r.grid.wide).place_below i c.requires) }
