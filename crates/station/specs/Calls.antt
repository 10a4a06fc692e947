-- What a write and a read answer and leave. A prime marks what is there at the return.
use Rattle.std.specs.Prelude.{◌≡◌, ℕ, ◌+◌, List, length, take, IfOk, Err, Result, MatchResult}
use Rattle.stack.specs.Calls.{Sent, Held}
use Rattle.stack.specs.declared.fault.Misfit.{Misfit}
use Rattle.stack.specs.declared.fault.Refusal.{Refusal}
use Rattle.stack.specs.Meaning.{CarrierMeaning}
use Rattle.station.specs.declared.answer.Given.{Given}
use Rattle.station.specs.declared.counts.Counts.{Counts}
use Rattle.station.specs.declared.refusal.Refused.{Refused}
use Rattle.station.specs.Counting.{write_judged, read_judged, after_read}
use Rattle.station.specs.Events.{Wrote, Read, Step}

-- a write, on a carrier whose parts fit where F holds: a block is sent, or all is left as found
pub record WriteCall {R : Type 0} (F : Type 0) (c : CarrierMeaning R) (n : ℕ) (k : Counts) (a b m : List ℕ) (r : Result (Unit {0}) (Refused Misfit)) (k' : Counts) (a' b' m' : List ℕ) : Type 0 where
  -- the answer and the counts
  pub step : Step c n k (Wrote a b m r) k'
  -- the buffers
  pub buffers : MatchResult (write_judged c k (length a) (length b) (length m)) (λ _. F → Sent (c.sent (take c.body a)) a b a' b' m') (λ _. (a' ≡ a) × (b' ≡ b) × (m' ≡ m))

-- the answer of a read bears the station's number and the number of its block
abbrev pub Numbered : ℕ → ℕ → Result Given (Refused Refusal) → Type 0
Numbered n b r = IfOk r (λ g. g.answer ≡ record { station = n; block = b })

-- a read
pub record ReadCall {R : Type 0} (F : Type 0) (c : CarrierMeaning R) (n : ℕ) (k : Counts) (a b t : List ℕ) (rs : List R) (r : Result Given (Refused Refusal)) (k' : Counts) (a' b' t' : List ℕ) : Type 0 where
  -- the answer and the counts
  pub step : F → Step c n k (Read a b t rs r) k'
  -- the counts follow the answer, whatever the carrier
  pub counts : k' ≡ after_read k r
  pub numbered : Numbered n (k.tried + 1) r
  -- the buffers; what is refused by 3, 4 or 9 leaves all as found
  pub buffers : MatchResult (read_judged c k (length a) (length b) (length t) (length rs)) (λ _. F → Held (c.got rs) a b t a' b' t') (λ e. (r ≡ Err e) × (a' ≡ a) × (b' ≡ b) × (t' ≡ t))
