-- The calls on a tuned station, each with what it was lent and what it answered.
use Rattle.std.specs.Prelude.{◌≡◌, ℕ, ◌+◌, List, length, Result}
use Rattle.stack.specs.declared.fault.Misfit.{Misfit}
use Rattle.stack.specs.declared.fault.Refusal.{Refusal}
use Rattle.stack.specs.Meaning.{CarrierMeaning}
use Rattle.station.specs.declared.answer.Given.{Given}
use Rattle.station.specs.declared.answer.PendingAnswer.{PendingAnswer}
use Rattle.station.specs.declared.counts.Counts.{Counts}
use Rattle.station.specs.declared.refusal.Refused.{Refused}
use Rattle.station.specs.declared.refusal.Unanswered.{Unanswered}
use Rattle.station.specs.Counting.{write_judged, read_judged, read_out, if_judged, spent, after_write, after_read, after_acknowledge, after_decline}

-- one call on a station whose carrier has readings R
pub data Event (R : Type 0) : Type 0 where
  -- `write` with two byte buffers, the body in the first, and room for the symbols
  Wrote : List ℕ → List ℕ → List ℕ → Result (Unit {0}) (Refused Misfit) → Event R
  -- `read` with two byte buffers, a step buffer and readings
  Read : List ℕ → List ℕ → List ℕ → List R → Result Given (Refused Refusal) → Event R
  Acknowledged : PendingAnswer → Result ℕ Unanswered → Event R
  Declined : PendingAnswer → Result ℕ Unanswered → Event R
  Counted : Counts → Event R

-- a call took the counts of station n on the carrier c from k to k': it answered by the rules, and its answer moved the counts
abbrev pub Step : {R : Type 0} → CarrierMeaning R → ℕ → Counts → Event R → Counts → Type 0
Step c n k (Wrote a b m r) k' = (r ≡ write_judged c k (length a) (length b) (length m)) × (k' ≡ after_write k r)
Step c n k (Read a b t rs r) k' = (r ≡ if_judged (read_judged c k (length a) (length b) (length t) (length rs)) (read_out n (k.tried + 1) (c.got rs))) × (k' ≡ after_read k r)
Step c n k (Acknowledged p r) k' = (r ≡ spent n k p) × (k' ≡ after_acknowledge k r)
Step c n k (Declined p r) k' = (r ≡ spent n k p) × (k' ≡ after_decline k r)
Step c n k (Counted answer) k' = (answer ≡ k) × (k' ≡ k)
