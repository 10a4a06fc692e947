-- A stage that may be left out, on a carrier that keeps its rule, is a carrier that keeps it.
use Rattle.std.specs.Prelude.{Some, None, Option}
use Rattle.stack.specs.Meaning.{StageMeaning, CarrierMeaning}
use Rattle.stack.specs.Optional.{with_stage, MeetsIfAny}
use Rattle.stack.specs.Rules.{StageRule, CarrierRule}
use Rattle.stack.specs.Stacking.{stacked_rule}

pub with_stage_rule : {S R : Type 0} {meaning : S → StageMeaning} {c : CarrierMeaning R} (s : Option S) → ((t : S) → StageRule (meaning t)) → CarrierRule c → MeetsIfAny meaning s c → CarrierRule (with_stage meaning s c)
with_stage_rule None rule below meets = below
with_stage_rule (Some t) rule below meets = stacked_rule (rule t) below meets
