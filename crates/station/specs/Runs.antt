-- Calls on one station, one after another, and what they add up to.
use Rattle.std.specs.Prelude.{◌≡◌, ℕ, ◌+◌, ◌<◌, ◌≤◌, List, [], ◌∷◌, ◌++◌, length, Ok, Err, Result}
use Rattle.stack.specs.declared.fault.CarrierFault.{CarrierFault}
use Rattle.stack.specs.declared.fault.Refusal.{Refusal}
use Rattle.stack.specs.declared.fault.Refusal.TheVariants.{Early, Late}
use Rattle.stack.specs.Meaning.{Received, CarrierMeaning}
use Rattle.station.specs.declared.answer.Given.{Given}
use Rattle.station.specs.declared.answer.PendingAnswer.{PendingAnswer}
use Rattle.station.specs.declared.counts.Counts.{Counts}
use Rattle.station.specs.declared.refusal.Refused.{Refused}
use Rattle.station.specs.declared.refusal.Refused.TheVariants.{Full, Carrier}
use Rattle.station.specs.declared.refusal.Unanswered.{Unanswered}
use Rattle.station.specs.Counting.{fresh, spent}
use Rattle.station.specs.Events.{Event, Wrote, Read, Acknowledged, Declined, Counted, Step}

-- the sum over a list of calls
unfoldable pub total : {R : Type 0} → (Event R → ℕ) → List (Event R) → ℕ
total f [] = 0
total f (e ∷ es) = f e + total f es

-- what one call counts

-- 1 for a call that was not refused
abbrev pub one_if_ok : {X E : Type 0} → Result X E → ℕ
one_if_ok (Ok x) = 1
one_if_ok (Err e) = 0

-- 1 for a read that the stages refused, not 3, 4 or 9
abbrev pub one_if_late : Result Given (Refused Refusal) → ℕ
one_if_late (Ok g) = 0
one_if_late (Err (Carrier (Early m))) = 0
one_if_late (Err Full) = 0
one_if_late (Err (Carrier (Late f))) = 1

-- the symbols and the bytes that a carrier corrected in readings that give a body
abbrev pub symbols_in : Result Received CarrierFault → ℕ
symbols_in (Ok g) = g.counts.symbols
symbols_in (Err f) = 0

abbrev pub bytes_in : Result Received CarrierFault → ℕ
bytes_in (Ok g) = g.counts.bytes
bytes_in (Err f) = 0

-- so many, where the read gave a body
abbrev pub if_given : ℕ → Result Given (Refused Refusal) → ℕ
if_given m (Ok g) = m
if_given m (Err e) = 0

-- a block was written
abbrev pub writes : {R : Type 0} → Event R → ℕ
writes (Wrote a b m r) = one_if_ok r
writes (Read a b t rs r) = 0
writes (Acknowledged p r) = 0
writes (Declined p r) = 0
writes (Counted k) = 0

-- a read gave a body
abbrev pub gives : {R : Type 0} → Event R → ℕ
gives (Wrote a b m r) = 0
gives (Read a b t rs r) = one_if_ok r
gives (Acknowledged p r) = 0
gives (Declined p r) = 0
gives (Counted k) = 0

-- a tried read gave none
abbrev pub refuses : {R : Type 0} → Event R → ℕ
refuses (Wrote a b m r) = 0
refuses (Read a b t rs r) = one_if_late r
refuses (Acknowledged p r) = 0
refuses (Declined p r) = 0
refuses (Counted k) = 0

-- a read was tried
abbrev pub tries : {R : Type 0} → Event R → ℕ
tries (Wrote a b m r) = 0
tries (Read a b t rs r) = one_if_ok r + one_if_late r
tries (Acknowledged p r) = 0
tries (Declined p r) = 0
tries (Counted k) = 0

-- an answer was acknowledged
abbrev pub acknowledges : {R : Type 0} → Event R → ℕ
acknowledges (Wrote a b m r) = 0
acknowledges (Read a b t rs r) = 0
acknowledges (Acknowledged p r) = one_if_ok r
acknowledges (Declined p r) = 0
acknowledges (Counted k) = 0

-- an answer was declined
abbrev pub declines : {R : Type 0} → Event R → ℕ
declines (Wrote a b m r) = 0
declines (Read a b t rs r) = 0
declines (Acknowledged p r) = 0
declines (Declined p r) = one_if_ok r
declines (Counted k) = 0

-- the symbols that the carrier corrected in a block that was given
abbrev pub symbols_of : {R : Type 0} → CarrierMeaning R → Event R → ℕ
symbols_of c (Wrote a b m r) = 0
symbols_of c (Read a b t rs r) = if_given (symbols_in (c.got rs)) r
symbols_of c (Acknowledged p r) = 0
symbols_of c (Declined p r) = 0
symbols_of c (Counted k) = 0

-- the bytes
abbrev pub bytes_of : {R : Type 0} → CarrierMeaning R → Event R → ℕ
bytes_of c (Wrote a b m r) = 0
bytes_of c (Read a b t rs r) = if_given (bytes_in (c.got rs)) r
bytes_of c (Acknowledged p r) = 0
bytes_of c (Declined p r) = 0
bytes_of c (Counted k) = 0

-- the answers that the caller holds

-- the answer p is one of those held, and the others are left
pub record Without (p : PendingAnswer) (held left : List PendingAnswer) : Type 0 where
  pub before : List PendingAnswer
  pub after : List PendingAnswer
  pub had : held ≡ before ++ p ∷ after
  pub has : left ≡ before ++ after

-- a read that gives a body hands out its answer
abbrev pub Handed : List PendingAnswer → Result Given (Refused Refusal) → List PendingAnswer → Type 0
Handed held (Ok g) held' = held' ≡ g.answer ∷ held
Handed held (Err e) held' = held' ≡ held

-- an answer that is accepted was held and is gone; one that is refused comes back
abbrev pub Spent : PendingAnswer → List PendingAnswer → Result ℕ Unanswered → List PendingAnswer → Type 0
Spent p held (Ok b) held' = Without p held held'
Spent p held (Err u) held' = held' ≡ held

-- the answers of this station that the caller holds before and after a call. No other station bears its number and an answer is neither made nor copied by a caller, so one that it accepts was among them
abbrev pub Holds : {R : Type 0} → List PendingAnswer → Event R → List PendingAnswer → Type 0
Holds held (Wrote a b m r) held' = held' ≡ held
Holds held (Read a b t rs r) held' = Handed held r held'
Holds held (Acknowledged p r) held' = Spent p held r held'
Holds held (Declined p r) held' = Spent p held r held'
Holds held (Counted k) held' = held' ≡ held

-- a station and its caller at one time: the counts, and the answers of this station that the caller holds
pub record State : Type 0 where
  pub counts : Counts
  pub held : List PendingAnswer

-- one call, from one state to the next
pub record Next {R : Type 0} (c : CarrierMeaning R) (n : ℕ) (s : State) (e : Event R) (s' : State) : Type 0 where
  pub step : Step c n s.counts e s'.counts
  pub holds : Holds s.held e s'.held

-- a list of calls, the first one first, takes one state to another
unfoldable pub Run : {R : Type 0} → CarrierMeaning R → ℕ → State → List (Event R) → State → Type 0
Run c n s [] s' = s' ≡ s
Run c n s (e ∷ es) s' = (between : State) × Next c n s e between × Run c n between es s'

-- a station that was just tuned, of whose answers none is held
abbrev pub tuned : State
tuned = record { counts = fresh; held = [] }

-- what stands after a list of calls
pub record AddsUp {R : Type 0} (c : CarrierMeaning R) (n : ℕ) (es : List (Event R)) (k : Counts) (held : List PendingAnswer) : Type 0 where
  -- every tried read gave a body or was refused
  pub tried_sum : k.tried ≡ k.given + k.refused
  -- every body given was acknowledged or declined, or its answer is held
  pub given_sum : k.given ≡ k.acknowledged + k.declined + length held
  -- neither count passes 65,535
  pub written_high : k.written ≤ 65535
  pub tried_high : k.tried ≤ 65535
  -- every count is the number of its calls
  pub written : k.written ≡ total writes es
  pub tried : k.tried ≡ total tries es
  pub given : k.given ≡ total gives es
  pub refused : k.refused ≡ total refuses es
  pub acknowledged : k.acknowledged ≡ total acknowledges es
  pub declined : k.declined ≡ total declines es
  -- the two sums are those over the blocks given, as the carrier corrected them
  pub symbols : k.symbols ≡ total (symbols_of c) es
  pub bytes : k.bytes ≡ total (bytes_of c) es
  -- an answer bears the station's number, and as its block number the number of reads tried before it and 1
  pub numbered : (before after : List (Event R)) (a b t : List ℕ) (rs : List R) (g : Given) → es ≡ before ++ Read a b t rs (Ok g) ∷ after → g.answer ≡ record { station = n; block = total tries before + 1 }
  -- an answer given later bears a greater number, so no two bear the same
  pub rising : (before between after : List (Event R)) (a b t x y z : List ℕ) (rs qs : List R) (g h : Given)
      → es ≡ before ++ Read a b t rs (Ok g) ∷ (between ++ Read x y z qs (Ok h) ∷ after) → g.answer.block < h.answer.block
  -- an answer that is held is accepted
  pub accepted : (p : PendingAnswer) (left : List PendingAnswer) → Without p held left → spent n k p ≡ Ok p.block

-- the law over runs: after every list of calls on a tuned station, refused ones among them, the counts add up
abbrev pub RunsAddUp : {R : Type 0} → CarrierMeaning R → ℕ → Type 0
RunsAddUp {R} c n = (es : List (Event R)) (s : State) → Run c n tuned es s → AddsUp c n es s.counts s.held
