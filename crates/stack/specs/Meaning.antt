-- What stages and carriers mean: lengths, and plain functions on lists.
use Rattle.std.specs.Prelude.{◌≡◌, ℕ, ◌+◌, ◌<◌, max, List, Ok, Err, Result}
use Rattle.stack.specs.declared.corrections.Corrections.{Corrections}
use Rattle.stack.specs.declared.fault.Fault.{Fault}
use Rattle.stack.specs.declared.fault.CarrierFault.{CarrierFault}
use Rattle.stack.specs.Faults.{at_top, deeper}

-- a body that a stage gave back, with the number of bytes that it corrected
pub record Corrected : Type 0 where
  pub body : List ℕ
  pub count : ℕ

-- a body that a carrier gave back, with its two counts
pub record Received : Type 0 where
  pub body : List ℕ
  pub counts : Corrections

-- a stage: the lengths of the body above and of the body below, and its two ways
pub record StageMeaning : Type 0 where
  pub upper : ℕ
  pub lower : ℕ
  pub encode : List ℕ → List ℕ
  pub decode : List ℕ → Result Corrected Fault

-- a carrier: its lengths, height and needs; the block of a body, the readings of a block that arrives unharmed, and what readings give
pub record CarrierMeaning (R : Type 0) : Type 0 where
  pub body : ℕ
  pub air : ℕ
  pub height : ℕ
  pub byte_need : ℕ
  pub step_need : ℕ
  pub sent : List ℕ → List ℕ
  pub clean : List ℕ → List R
  pub got : List R → Result Received CarrierFault

-- what a stage's answer is for the stack, whose carrier counted n: symbols as below, bytes added; its own refusal at depth 0
abbrev pub decoded : Corrections → Result Corrected Fault → Result Received CarrierFault
decoded n (Ok d) = Ok (record { body = d.body; counts = record { symbols = n.symbols; bytes = n.bytes + d.count } })
decoded n (Err f) = Err (at_top f)

-- what a stage makes of what its carrier gave: a body is decoded, a refusal comes up one deeper
abbrev pub raised : StageMeaning → Result Received CarrierFault → Result Received CarrierFault
raised s (Ok g) = decoded g.counts (s.decode g.body)
raised s (Err f) = Err (deeper f)

-- a stage set on a carrier
abbrev pub stacked : {R : Type 0} → StageMeaning → CarrierMeaning R → CarrierMeaning R
stacked s c = record {
  body = s.upper;
  air = c.air;
  height = c.height + 1;
  byte_need = max s.upper (max s.lower c.byte_need);
  step_need = c.step_need;
  sent = λ x. c.sent (s.encode x);
  clean = c.clean;
  got = λ rs. raised s (c.got rs);
}

-- that a stage may be set on a carrier
pub record Meets {R : Type 0} (s : StageMeaning) (c : CarrierMeaning R) : Type 0 where
  pub lengths : s.lower ≡ c.body
  pub below : c.height < 32
