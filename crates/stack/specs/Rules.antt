-- The rules that stages and carriers of every make keep.
use Rattle.std.specs.Prelude.{◌≡◌, ℕ, ◌*◌, ◌<◌, ◌≤◌, List, length, Ok, Result, MatchResult}
use Rattle.stack.specs.declared.fault.Fault.{Fault}
use Rattle.stack.specs.declared.fault.CarrierFault.{CarrierFault}
use Rattle.stack.specs.Buffers.{Bytes}
use Rattle.stack.specs.Faults.{Late, fault_number}
use Rattle.stack.specs.Meaning.{Corrected, Received, StageMeaning, CarrierMeaning}

-- a length of a body or of an air block
pub record Length (n : ℕ) : Type 0 where
  pub low : 1 ≤ n
  pub high : n ≤ 98304

-- a body that a stage may give back
pub record Fixed (s : StageMeaning) (d : Corrected) : Type 0 where
  pub body : length d.body ≡ s.upper
  pub count : d.count ≤ 98304

-- what a stage may answer
abbrev pub Decodes : StageMeaning → Result Corrected Fault → Type 0
Decodes s w = MatchResult w (Fixed s) (λ f. Late (fault_number f))

-- the stage rule: lengths within the limits, answers within the limits, and `decode` of `encode` is the body with nothing corrected
pub record StageRule (s : StageMeaning) : Type 0 where
  pub upper : Length s.upper
  pub lower : Length s.lower
  pub encode_length : (x : List ℕ) → length x ≡ s.upper → length (s.encode x) ≡ s.lower
  pub encode_bytes : (x : List ℕ) → length x ≡ s.upper → Bytes x → Bytes (s.encode x)
  pub decodes : (y : List ℕ) → length y ≡ s.lower → Decodes s (s.decode y)
  pub returns : (x : List ℕ) → length x ≡ s.upper → Bytes x → s.decode (s.encode x) ≡ Ok (record { body = x; count = 0 })

-- a body that a carrier may give back
pub record Within {R : Type 0} (c : CarrierMeaning R) (g : Received) : Type 0 where
  pub body : length g.body ≡ c.body
  pub symbols : g.counts.symbols ≤ 98304
  pub bytes : g.counts.bytes ≤ 98304 * c.height

-- a refusal that a carrier may give
pub record Refuses {R : Type 0} (c : CarrierMeaning R) (f : CarrierFault) : Type 0 where
  pub number : Late (fault_number f.fault)
  pub depth : f.depth < c.height

-- what a carrier may answer
abbrev pub Receives : {R : Type 0} → CarrierMeaning R → Result Received CarrierFault → Type 0
Receives c v = MatchResult v (Within c) (Refuses c)

-- the carrier rule: lengths, height and answers within the limits, and `got` of the clean readings of what was sent is the body with nothing corrected
pub record CarrierRule {R : Type 0} (c : CarrierMeaning R) : Type 0 where
  pub body : Length c.body
  pub air : Length c.air
  pub height_low : 1 ≤ c.height
  pub height_high : c.height ≤ 32
  pub need_low : c.body ≤ c.byte_need
  pub need_high : c.byte_need ≤ 98304
  pub sent_length : (x : List ℕ) → length x ≡ c.body → length (c.sent x) ≡ c.air
  pub clean_length : (m : List ℕ) → length m ≡ c.air → length (c.clean m) ≡ c.air
  pub receives : (rs : List R) → length rs ≡ c.air → Receives c (c.got rs)
  pub returns : (x : List ℕ) → length x ≡ c.body → Bytes x → c.got (c.clean (c.sent x)) ≡ Ok (record { body = x; counts = record { symbols = 0; bytes = 0 } })
