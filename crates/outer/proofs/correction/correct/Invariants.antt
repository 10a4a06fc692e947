-- The word with the values at the places so far, and their number.
use Rattle.std.proofs.Common.{◌≡◌, ◌≤◌, take}
use Rattle.outer.specs.Decoding.{error_value, corrected, errors}
use Rattle.outer.proofs.correction.correct.Given as goal

abbrev pub invariant-loop-place : goal.invariant-loop-place
invariant-loop-place g s =
    let v = error_value (g.F.Field.meaning s.field) s.r s.n s.places s.syndromes in
    let so_far = take s.place-index s.places in
    (s.word ≡ corrected v s.initial.word so_far) × (s.count ≡ errors v so_far) × (s.count ≤ s.place-index)
