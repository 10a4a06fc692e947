-- What each call answers and leaves, by what the meaning gives. A prime marks what is there at the return.
use Rattle.std.specs.Prelude.{◌≡◌, ℕ, cond, ◌&&◌, List, length, take, Ok, Err, Result, MatchResult, ◌==◌, nat_le}
use Rattle.stack.specs.declared.corrections.Corrections.{Corrections}
use Rattle.stack.specs.declared.fault.Fault.{Fault}
use Rattle.stack.specs.declared.fault.CarrierFault.{CarrierFault}
use Rattle.stack.specs.declared.fault.Misfit.{Misfit}
use Rattle.stack.specs.declared.fault.Misfit.TheVariants.{Buffers, AirLength}
use Rattle.stack.specs.declared.fault.Refusal.{Refusal}
use Rattle.stack.specs.declared.fault.Refusal.TheVariants.{Early, Late}
use Rattle.stack.specs.Buffers.{zeros, padded}
use Rattle.stack.specs.Meaning.{Corrected, Received, CarrierMeaning}

-- stages

-- the answer of `decode`
abbrev pub counted : Result Corrected Fault → Result ℕ Fault
counted (Ok d) = Ok d.count
counted (Err f) = Err f

-- a buffer of n bytes that was decoded into
abbrev pub decoded_into : ℕ → Result Corrected Fault → List ℕ
decoded_into n (Ok d) = padded n d.body
decoded_into n (Err f) = zeros n

-- a call of `encode` that gives the body y, from the buffer a to the buffer b
pub record Encoded (y : List ℕ) (a b a' b' : List ℕ) : Type 0 where
  pub from : a' ≡ zeros (length a)
  pub to : b' ≡ padded (length b) y

-- a call of `decode` that gives w, with the answer r
pub record Decoded (w : Result Corrected Fault) (a b : List ℕ) (r : Result ℕ Fault) (a' b' : List ℕ) : Type 0 where
  pub answer : r ≡ counted w
  pub from : a' ≡ zeros (length a)
  pub to : b' ≡ decoded_into (length b) w

-- carriers, once the lengths are judged

-- the answer of `receive`
abbrev pub answered : Result Received CarrierFault → Result Corrections CarrierFault
answered (Ok g) = Ok g.counts
answered (Err f) = Err f

-- a buffer of n bytes that was received into
abbrev pub received_into : ℕ → Result Received CarrierFault → List ℕ
received_into n (Ok g) = padded n g.body
received_into n (Err f) = zeros n

-- a call of `send` that gives the block y, from the body in the buffer a
pub record Sent (y : List ℕ) (a b a' b' m' : List ℕ) : Type 0 where
  pub symbols : m' ≡ y
  pub first : a' ≡ zeros (length a)
  pub second : b' ≡ zeros (length b)

-- the buffers after readings that give v
pub record Held (v : Result Received CarrierFault) (a b t a' b' t' : List ℕ) : Type 0 where
  pub first : a' ≡ received_into (length a) v
  pub second : b' ≡ zeros (length b)
  pub steps : t' ≡ zeros (length t)

-- a call of `receive` whose readings give v
pub record Got (v : Result Received CarrierFault) (a b t : List ℕ) (r : Result Corrections CarrierFault) (a' b' t' : List ℕ) : Type 0 where
  pub answer : r ≡ answered v
  pub held : Held v a b t a' b' t'

-- carriers

-- first the buffers are judged, then the list of symbols or readings
abbrev pub judged : ℕ → ℕ → ℕ → ℕ → ℕ → ℕ → ℕ → Result (Unit {0}) Misfit
judged need first second step_need steps air list =
    cond ((first == second && nat_le need first) && nat_le step_need steps) (cond (list == air) (Ok tt) (Err AirLength)) (Err Buffers)

-- the answer of `get`
abbrev pub told : Result Received CarrierFault → Result Corrections Refusal
told (Ok g) = Ok g.counts
told (Err f) = Err (Late f)

-- a call of `put`, on a carrier whose parts fit where F holds: what does not fit is refused and all left as found
abbrev pub Put : {R : Type 0} → Type 0 → CarrierMeaning R → List ℕ → List ℕ → List ℕ → Result (Unit {0}) Misfit → List ℕ → List ℕ → List ℕ → Type 0
Put F c a b m r a' b' m' =
    MatchResult (judged c.byte_need (length a) (length b) 0 0 c.air (length m))
    (λ _. (r ≡ Ok tt) × (F → Sent (c.sent (take c.body a)) a b a' b' m'))
    (λ f. (r ≡ Err f) × (a' ≡ a) × (b' ≡ b) × (m' ≡ m))

-- a call of `get`
abbrev pub Get : {R : Type 0} → Type 0 → CarrierMeaning R → List ℕ → List ℕ → List ℕ → List R → Result Corrections Refusal → List ℕ → List ℕ → List ℕ → Type 0
Get F c a b t rs r a' b' t' =
    MatchResult (judged c.byte_need (length a) (length b) c.step_need (length t) c.air (length rs))
    (λ _. F → (r ≡ told (c.got rs)) × Held (c.got rs) a b t a' b' t')
    (λ f. (r ≡ Err (Early f)) × (a' ≡ a) × (b' ≡ b) × (t' ≡ t))
