-- The passes for the places so far.
use Rattle.std.proofs.Common.{map, take}
use Rattle.outer.specs.declared.correction.Located.{Located}
use Rattle.outer.specs.Decoding.{others}
use Rattle.outer.proofs.ErrorValues.{Passing}
use Rattle.outer.proofs.correction.Errors.value.Given as goal

abbrev pub invariant-loop-other : goal.invariant-loop-other
invariant-loop-other g s =
    Passing (g.F.Field.meaning s.field) s.self.r s.self.n s.place (others s.place (take s.other-index (map (λ (e : Located). e.place) s.self.located.items))) s.self.syndromes.now s.sums s.divisor
