-- Each row holds its multiple of the constant in every lane.
use Rattle.std.proofs.Common.{◌≡◌, ◌*◌, ◌%◌, ◌^◌, [], replicate, ap, ◌∙◌, rules}
use lib.ListN.{get_or-replicate}
use Rattle.std.proofs.lemmas.Nat.{one_shl}
use Rattle.outer.specs.declared.lanes.Row.{Row}
use Rattle.outer.specs.Lanes.{lane}
use Rattle.outer.proofs.Filling.{filled}
use Rattle.outer.proofs.locator.scalar_multiples.Goals as goal

pub returns : goal.returns
returns g c =
    let times = (g.F.Field.meaning c.args.field.now).mul c.args.k in
    let rows = filled _ _ (λ i (row : Row). row.lanes ≡ replicate 32 (times (1 * 2 ^ i % 256))) 8 (λ i y q h call. search rules) c.from_fn.result (record { lanes = [] }) c.from_fn.ensures.items in
    record {
      bytes = λ l h. c.ranges.k.fits;
      each = λ i l hi hl. ap (λ v. lane v l) (rows i hi) ∙ get_or-replicate 32 l (times (1 * 2 ^ i % 256)) 0 hl ∙ ap times (one_shl i 8 hi);
    }
