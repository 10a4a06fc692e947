-- Worked examples of samples and of the helical rule.
use Rattle.std.specs.Prelude.{◌≡◌, [], ◌∷◌, map, pos, negsuc, refl}
use Rattle.readings.specs.Samples.{sixteenth, soft_of}
use Rattle.readings.specs.Helix.{wound, unwound, helix}

-- the samples 7, 8, -8, 24, 32767 and -32768 are read as 0, 1, -1, 2, 127 and -127
pub samples-read : map soft_of (pos 7 ∷ pos 8 ∷ negsuc 7 ∷ pos 24 ∷ pos 32767 ∷ negsuc 32767 ∷ []) ≡ pos 0 ∷ pos 1 ∷ negsuc 0 ∷ pos 2 ∷ pos 127 ∷ negsuc 126 ∷ []
unfolding sixteenth soft_of
samples-read = refl

-- four rows of two: the elements 0 to 7 go to the places 0, 7, 2, 1, 4, 3, 6 and 5
pub places_of_four_by_two : map (helix 4 2).place (0 ∷ 1 ∷ 2 ∷ 3 ∷ 4 ∷ 5 ∷ 6 ∷ 7 ∷ []) ≡ 0 ∷ 7 ∷ 2 ∷ 1 ∷ 4 ∷ 3 ∷ 6 ∷ 5 ∷ []
unfolding wound
places_of_four_by_two = refl

-- and the places 0 to 7 take the elements 0, 3, 2, 5, 4, 7, 6 and 1
pub elements_of_four_by_two : map (helix 4 2).source (0 ∷ 1 ∷ 2 ∷ 3 ∷ 4 ∷ 5 ∷ 6 ∷ 7 ∷ []) ≡ 0 ∷ 3 ∷ 2 ∷ 5 ∷ 4 ∷ 7 ∷ 6 ∷ 1 ∷ []
unfolding unwound
elements_of_four_by_two = refl
