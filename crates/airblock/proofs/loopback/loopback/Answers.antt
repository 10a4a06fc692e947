use Rattle.std.proofs.Common.{ℕ, ◌<◌, get_or, rules}
use Rattle.airblock.proofs.Rounds.{looped}
use Rattle.airblock.proofs.loopback.loopback.Goals as goal

pub returns : goal.returns
returns g c =
    let bytes : (k : ℕ) → get_or c.args.first.now k 0 < 256 = search rules in
    looped _ _ (g.met.C.Carrier.rule _) _ _ _ _ _ _ _ _ _ _ _ _ bytes c.put.ensures c.in_ok-put.was c.get.ensures
