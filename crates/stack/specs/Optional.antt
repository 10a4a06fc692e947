-- A stage that may be left out.
use Rattle.std.specs.Prelude.{Some, None, Option}
use Rattle.stack.specs.Meaning.{StageMeaning, CarrierMeaning, stacked, Meets}

-- a stage set on a carrier, or the carrier alone
abbrev pub with_stage : {S R : Type 0} → (S → StageMeaning) → Option S → CarrierMeaning R → CarrierMeaning R
with_stage meaning None c = c
with_stage meaning (Some s) c = stacked (meaning s) c

-- that the stage, if there is one, may be set on the carrier
abbrev pub MeetsIfAny : {S R : Type 0} → (S → StageMeaning) → Option S → CarrierMeaning R → Type 0
MeetsIfAny meaning None c = Unit {0}
MeetsIfAny meaning (Some s) c = Meets (meaning s) c
