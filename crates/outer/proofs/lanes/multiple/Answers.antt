-- Each lane holds its product.
use Rattle.std.proofs.Common.{◌≡◌, rules}
use Rattle.outer.specs.Lanes.{lane}
use Rattle.outer.proofs.Filling.{filled}
use Rattle.outer.proofs.lanes.multiple.Goals as goal

pub returns : goal.returns
returns g c =
    filled _ _ (λ l x. x ≡ (g.F.Field.meaning c.args.field.now).mul (lane c.args.constants.now l) c.args.by) 32 (λ l y q h call. search rules) c.from_fn-lanes.result 0 c.from_fn-lanes.ensures.items
