-- Worked examples: the marks of a byte, the places of a small block, samples, and a block of which nothing was read.
use Rattle.std.specs.Prelude.{◌≡◌, [], ◌∷◌, ◌++◌, map, replicate, pos, negsuc, None, Ok}
use Rattle.convolution.specs.declared.rate.Rate.TheVariants.{Half, ThreeQuarters, Third}
use Rattle.convolution.specs.Code.{all_bits, marks}
use Rattle.readings.specs.Helix.{helix}
use Rattle.readings.specs.Readings.{hard_cost, clean_hard}
use Rattle.readings.specs.Samples.{soft_of}
use Rattle.line.specs.Line.{lining}

pub record Examples : Type 0 where
  -- the kept marks of 80 hex and its tail
  pub half_80 : marks Half (all_bits (0x80 ∷ [])) ≡ (1 ∷ 1 ∷ 1 ∷ 0 ∷ 1 ∷ 1 ∷ 1 ∷ 1 ∷ 0 ∷ 0 ∷ 0 ∷ 1 ∷ 1 ∷ 1 ∷ []) ++ replicate 14 0
  pub three_quarters_80 : marks ThreeQuarters (all_bits (0x80 ∷ [])) ≡ (1 ∷ 1 ∷ 0 ∷ 1 ∷ 1 ∷ 1 ∷ 0 ∷ 0 ∷ 1 ∷ 1 ∷ []) ++ replicate 9 0
  pub third_80 : marks Third (all_bits (0x80 ∷ [])) ≡ (1 ∷ 1 ∷ 1 ∷ 0 ∷ 1 ∷ 1 ∷ 1 ∷ 0 ∷ 1 ∷ 1 ∷ 0 ∷ 1 ∷ 0 ∷ 1 ∷ 1 ∷ 1 ∷ 0 ∷ 1 ∷ 1 ∷ 1 ∷ 1 ∷ []) ++ replicate 21 0
  -- four rows of two: the marks 0 to 7 go to these places
  pub four_by_two : map (helix 4 2).place (0 ∷ 1 ∷ 2 ∷ 3 ∷ 4 ∷ 5 ∷ 6 ∷ 7 ∷ []) ≡ 0 ∷ 7 ∷ 2 ∷ 1 ∷ 4 ∷ 3 ∷ 6 ∷ 5 ∷ []
  -- the samples 7, 8, -8, 24, 32767 and -32768 are read as 0, 1, -1, 2, 127 and -127
  pub samples : map soft_of (pos 7 ∷ pos 8 ∷ negsuc 7 ∷ pos 24 ∷ pos 32767 ∷ negsuc 32767 ∷ []) ≡ pos 0 ∷ pos 1 ∷ negsuc 0 ∷ pos 2 ∷ pos 127 ∷ negsuc 126 ∷ []
  -- one byte at one half on four rows of seven: where all readings are absent it is read as 00, with nothing corrected
  pub absent : (lining hard_cost clean_hard Half 4 7 1).got (replicate 28 None) ≡ Ok (record { body = 0x00 ∷ []; counts = record { symbols = 0; bytes = 0 } })
