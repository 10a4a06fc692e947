-- The places so far, and the multiples of their locators.
use Rattle.std.proofs.Common.{◌≡◌, ℕ, ◌<◌, [], get_or, map, take}
use Rattle.outer.specs.declared.correction.Located.{Located}
use Rattle.outer.specs.Cutting.{always}
use Rattle.outer.specs.Decoding.{locator}
use Rattle.outer.specs.Lanes.{Are}
use Rattle.outer.proofs.correction.locate.Given as goal

abbrev pub invariant-loop-place : goal.invariant-loop-place
invariant-loop-place g l =
    let f = g.F.Field.meaning l.field in
    let zs = l.places in
    (map (λ (e : Located). e.place) l.located.items ≡ take l.place-index zs)
    × ((k : ℕ) → k < l.place-index → Are f (always (locator f l.n (get_or zs k 0))) (get_or (map (λ (e : Located). e.locator) l.located.items) k (record { rows = [] })).rows)
