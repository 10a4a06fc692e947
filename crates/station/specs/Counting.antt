-- What each call answers and how it moves the counts.
use Rattle.std.specs.Prelude.{ℕ, ◌+◌, ◌-◌, cond, not, ◌&&◌, Ok, Err, Result, ◌==◌}
use Rattle.stack.specs.declared.fault.CarrierFault.{CarrierFault}
use Rattle.stack.specs.declared.fault.Misfit.{Misfit}
use Rattle.stack.specs.declared.fault.Refusal.{Refusal}
use Rattle.stack.specs.declared.fault.Refusal.TheVariants.{Early, Late}
use Rattle.stack.specs.Calls.{judged}
use Rattle.stack.specs.Meaning.{Received, CarrierMeaning}
use Rattle.station.specs.declared.answer.Given.{Given}
use Rattle.station.specs.declared.answer.PendingAnswer.{PendingAnswer}
use Rattle.station.specs.declared.counts.Counts.{Counts}
use Rattle.station.specs.declared.refusal.Refused.{Refused}
use Rattle.station.specs.declared.refusal.Refused.TheVariants.{Full, Carrier}
use Rattle.station.specs.declared.refusal.Unanswered.{Unanswered}

-- the counts of a station that was just tuned
abbrev pub fresh : Counts
fresh = record { written = 0; tried = 0; given = 0; refused = 0; acknowledged = 0; declined = 0; symbols = 0; bytes = 0 }

-- the number of answers that are owed
abbrev pub owed : Counts → ℕ
owed k = k.given - k.acknowledged - k.declined

-- what fits goes on, unless its count is 65,535
abbrev pub unless_full : {E : Type 0} → (Misfit → E) → ℕ → Result (Unit {0}) Misfit → Result (Unit {0}) (Refused E)
unless_full early count (Ok u) = cond (count == 65535) (Err Full) (Ok tt)
unless_full early count (Err f) = Err (Carrier (early f))

-- a write with byte buffers of a and b bytes and room for m symbols: 3, 4, then 9
abbrev pub write_judged : {R : Type 0} → CarrierMeaning R → Counts → ℕ → ℕ → ℕ → Result (Unit {0}) (Refused Misfit)
write_judged c k a b m = unless_full (λ m. m) k.written (judged c.byte_need a b 0 0 c.air m)

-- a read with byte buffers of a and b bytes, t steps and so many readings: 3, 4, then 9
abbrev pub read_judged : {R : Type 0} → CarrierMeaning R → Counts → ℕ → ℕ → ℕ → ℕ → Result (Unit {0}) (Refused Refusal)
read_judged c k a b t readings = unless_full Early k.tried (judged c.byte_need a b c.step_need t c.air readings)

-- what a tried read of station n answers, as block b
abbrev pub read_out : ℕ → ℕ → Result Received CarrierFault → Result Given (Refused Refusal)
read_out n b (Ok g) = Ok (record { corrections = g.counts; answer = record { station = n; block = b } })
read_out n b (Err f) = Err (Carrier (Late f))

-- what is not refused is read
abbrev pub if_judged : {X E : Type 0} → Result (Unit {0}) E → Result X E → Result X E
if_judged (Ok u) answer = answer
if_judged (Err e) answer = Err e

-- what spending an answer gives: its block number, or the answer back where it is another station's or none is owed
abbrev pub spent : ℕ → Counts → PendingAnswer → Result ℕ Unanswered
spent n k p = cond (p.station == n && not (owed k == 0)) (Ok p.block) (Err (record { answer = p }))

-- the counts after a write
abbrev pub after_write : Counts → Result (Unit {0}) (Refused Misfit) → Counts
after_write k (Ok u) = record {
  written = k.written + 1;
  tried = k.tried;
  given = k.given;
  refused = k.refused;
  acknowledged = k.acknowledged;
  declined = k.declined;
  symbols = k.symbols;
  bytes = k.bytes;
}
after_write k (Err e) = k

-- after a read that the stages refused
abbrev pub after_refusal : Counts → Refused Refusal → Counts
after_refusal k (Carrier (Early m)) = k
after_refusal k Full = k
after_refusal k (Carrier (Late f)) = record {
  written = k.written;
  tried = k.tried + 1;
  given = k.given;
  refused = k.refused + 1;
  acknowledged = k.acknowledged;
  declined = k.declined;
  symbols = k.symbols;
  bytes = k.bytes;
}

-- after a read
abbrev pub after_read : Counts → Result Given (Refused Refusal) → Counts
after_read k (Ok g) = record {
  written = k.written;
  tried = k.tried + 1;
  given = k.given + 1;
  refused = k.refused;
  acknowledged = k.acknowledged;
  declined = k.declined;
  symbols = k.symbols + g.corrections.symbols;
  bytes = k.bytes + g.corrections.bytes;
}
after_read k (Err e) = after_refusal k e

-- after acknowledging
abbrev pub after_acknowledge : Counts → Result ℕ Unanswered → Counts
after_acknowledge k (Ok b) = record {
  written = k.written;
  tried = k.tried;
  given = k.given;
  refused = k.refused;
  acknowledged = k.acknowledged + 1;
  declined = k.declined;
  symbols = k.symbols;
  bytes = k.bytes;
}
after_acknowledge k (Err u) = k

-- after declining
abbrev pub after_decline : Counts → Result ℕ Unanswered → Counts
after_decline k (Ok b) = record {
  written = k.written;
  tried = k.tried;
  given = k.given;
  refused = k.refused;
  acknowledged = k.acknowledged;
  declined = k.declined + 1;
  symbols = k.symbols;
  bytes = k.bytes;
}
after_decline k (Err u) = k
