-- The marks of one byte, 80 hex, at three rates.
use Rattle.std.proofs.Common.{◌≡◌, [], ◌∷◌, ◌++◌, replicate, refl}
use lib.Count.{ones, ones_in}
use Rattle.convolution.specs.declared.rate.Rate.TheVariants.{Half, ThreeQuarters, Third}
use Rattle.convolution.specs.Code.{bits, all_bits, window, keeps, kept_from, step_marks, marks_to, marks}

pub half_80 : marks Half (all_bits (0x80 ∷ [])) ≡ (1 ∷ 1 ∷ 1 ∷ 0 ∷ 1 ∷ 1 ∷ 1 ∷ 1 ∷ 0 ∷ 0 ∷ 0 ∷ 1 ∷ 1 ∷ 1 ∷ []) ++ replicate 14 0
unfolding marks marks_to step_marks kept_from keeps window all_bits bits ones ones_in
half_80 = refl

pub three_quarters_80 : marks ThreeQuarters (all_bits (0x80 ∷ [])) ≡ (1 ∷ 1 ∷ 0 ∷ 1 ∷ 1 ∷ 1 ∷ 0 ∷ 0 ∷ 1 ∷ 1 ∷ []) ++ replicate 9 0
unfolding marks marks_to step_marks kept_from keeps window all_bits bits ones ones_in
three_quarters_80 = refl

pub third_80 : marks Third (all_bits (0x80 ∷ [])) ≡ (1 ∷ 1 ∷ 1 ∷ 0 ∷ 1 ∷ 1 ∷ 1 ∷ 0 ∷ 1 ∷ 1 ∷ 0 ∷ 1 ∷ 0 ∷ 1 ∷ 1 ∷ 1 ∷ 0 ∷ 1 ∷ 1 ∷ 1 ∷ 1 ∷ []) ++ replicate 21 0
unfolding marks marks_to step_marks kept_from keeps window all_bits bits ones ones_in
third_80 = refl
