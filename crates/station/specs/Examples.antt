-- Worked examples of all crates together, and a run of a station.
use Rattle.std.specs.Prelude.{ℕ, List, [], ◌∷◌, Ok, Err}
use Rattle.line.specs.Examples as line
use Rattle.reed_solomon.specs.Examples as outer
use Rattle.stack.specs.Bare.{bare}
use Rattle.stack.specs.declared.fault.Misfit.TheVariants.{Buffers}
use Rattle.stack.specs.declared.fault.Refusal.TheVariants.{Early}
use Rattle.stages.specs.Examples as stages
use Rattle.station.specs.declared.answer.PendingAnswer.{PendingAnswer}
use Rattle.station.specs.declared.refusal.Refused.TheVariants.{Carrier}
use Rattle.station.specs.Events.{Event, Wrote, Read, Acknowledged, Declined}
use Rattle.station.specs.Runs.{Run, State, tuned}

-- the answer of station 7 for a block, and one of station 8
abbrev pub of_seven : ℕ → PendingAnswer
of_seven block = record { station = 7; block = block }

abbrev pub of_eight : PendingAnswer
of_eight = record { station = 8; block = 1 }

-- station 7 on a bare carrier of one byte: a write, two reads, a read with no buffers, the first answer acknowledged, another station's answer handed over
abbrev pub calls : List (Event ℕ)
calls = Wrote (5 ∷ []) (0 ∷ []) (0 ∷ []) (Ok tt)
    ∷ Read (0 ∷ []) (0 ∷ []) [] (5 ∷ []) (Ok (record { corrections = record { symbols = 0; bytes = 0 }; answer = of_seven 1 }))
    ∷ Read (0 ∷ []) (0 ∷ []) [] (6 ∷ []) (Ok (record { corrections = record { symbols = 0; bytes = 0 }; answer = of_seven 2 }))
    ∷ Read [] [] [] (5 ∷ []) (Err (Carrier (Early Buffers)))
    ∷ Acknowledged (of_seven 1) (Ok 1)
    ∷ Declined of_eight (Err (record { answer = of_eight }))
    ∷ []

-- one written, two tried and given, one acknowledged, and the second answer still held
abbrev pub after_calls : State
after_calls = record { counts = record { written = 1; tried = 2; given = 2; refused = 0; acknowledged = 1; declined = 0; symbols = 0; bytes = 0 }; held = of_seven 2 ∷ [] }

pub record Examples : Type 0 where
  pub stages : stages.Examples
  pub outer_code : outer.Examples
  pub line : line.Examples
  -- the calls are a run of a station
  pub station : Run (bare 1) 7 tuned calls after_calls
