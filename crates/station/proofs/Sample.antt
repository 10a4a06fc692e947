-- The calls of the example are a run of a station.
use Rattle.std.proofs.Common.{[], ◌∷◌, refl}
use Rattle.stack.specs.Bare.{bare}
use Rattle.station.specs.Examples.{calls, after_calls, of_seven}
use Rattle.station.specs.Runs.{Run, tuned}

pub sample_run : Run (bare 1) 7 tuned calls after_calls
unfolding Run
sample_run = (
  record { counts = record { written = 1; tried = 0; given = 0; refused = 0; acknowledged = 0; declined = 0; symbols = 0; bytes = 0 }; held = [] },
  record { step = (refl, refl); holds = refl },
  (
    record { counts = record { written = 1; tried = 1; given = 1; refused = 0; acknowledged = 0; declined = 0; symbols = 0; bytes = 0 }; held = of_seven 1 ∷ [] },
    record { step = (refl, refl); holds = refl },
    (
      record { counts = record { written = 1; tried = 2; given = 2; refused = 0; acknowledged = 0; declined = 0; symbols = 0; bytes = 0 }; held = of_seven 2 ∷ of_seven 1 ∷ [] },
      record { step = (refl, refl); holds = refl },
      (
        record { counts = record { written = 1; tried = 2; given = 2; refused = 0; acknowledged = 0; declined = 0; symbols = 0; bytes = 0 }; held = of_seven 2 ∷ of_seven 1 ∷ [] },
        record { step = (refl, refl); holds = refl },
        (
          after_calls,
          record { step = (refl, refl); holds = record { before = of_seven 2 ∷ []; after = []; had = refl; has = refl } },
          (
            after_calls,
            record { step = (refl, refl); holds = refl },
            refl,
          ),
        ),
      ),
    ),
  ),
)
