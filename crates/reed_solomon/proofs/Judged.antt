-- A code that was made is within the limits.
use Rattle.reed_solomon.specs.declared.stage.ReedSolomon.{ReedSolomon}
use Rattle.reed_solomon.specs.Coding.{Limits}

pub limits_of : {F : Type 0} (s : ReedSolomon F) → Limits s.root s.words s.length s.errors
limits_of s = record {
  root = s.root_high;
  words_low = s.words_low;
  words_high = s.words_high;
  data_low = s.data_low;
  errors_low = s.errors_low;
  errors_high = s.errors_high;
  room = s.room;
}
