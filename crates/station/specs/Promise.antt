-- The whole promise of a station on a carrier.
use Rattle.std.specs.Prelude.{◌≡◌, ℕ, ◌+◌, ◌*◌}
use Rattle.galois.specs.Bytes.{ByteField, FieldRule}
use Rattle.reed_solomon.specs.Bursts.{Protected}
use Rattle.reed_solomon.specs.Coding.{Limits, coding}
use Rattle.stack.specs.Meaning.{CarrierMeaning}
use Rattle.stack.specs.Rules.{StageRule, CarrierRule}
use Rattle.stack.specs.Stacks.{StacksCompose}
use Rattle.stages.specs.Interleaving.{interleaving}
use Rattle.station.specs.Runs.{RunsAddUp}

-- an outer code on a carrier: Reed-Solomon over the field f, of so many words of k data bytes and 2e check bytes, on the block interleaver of its words
pub record OuterCode {R : Type 0} (f : ByteField) (r words k e : ℕ) (c : CarrierMeaning R) : Type 0 where
  -- both are stages that keep the stage rule, so they stand in stacks
  pub code : StageRule (coding f r words k e)
  pub interleaver : StageRule (interleaving words (k + 2 * e))
  -- damage within e * words neighbouring places is undone, and a refusal comes exactly where some word has no code word within e bytes
  pub bears : Protected f r words k e c

-- what is promised of a station of number n on the carrier c
pub record Promise {R : Type 0} (c : CarrierMeaning R) (n : ℕ) : Type 0 where
  -- the carrier keeps the carrier rule, so what is said of every carrier is said of it
  pub carrier : CarrierRule c
  -- stacks: on every carrier that keeps the carrier rule, every list of stages that keep the stage rule, with lengths that meet and at most 32 high, is a carrier that keeps the carrier rule, and composed of its parts
  pub stacks : (d : CarrierMeaning R) → CarrierRule d → StacksCompose d
  -- the outer code: for every field of bytes that keeps the field's rule, at all limits, on every such carrier
  pub outer_code : (f : ByteField) → FieldRule f → (r words k e : ℕ) → Limits r words k e → (d : CarrierMeaning R) → CarrierRule d → d.body ≡ words * (k + 2 * e) → OuterCode f r words k e d
  -- stations: after every list of calls on the station, the counts add up
  pub stations : RunsAddUp c n
