-- The coder of a plan: the stages that it has, on a carrier.
use Rattle.std.specs.Prelude.{◌≡◌, ℕ, ◌+◌, ◌≤◌, List, [], ◌∷◌, length, Some, None, Option}
use Rattle.galois.specs.declared.chosen.AnyField.{AnyField}
use Rattle.galois.specs.Choice.{chosen_field}
use Rattle.reed_solomon.specs.declared.stage.ReedSolomon.{ReedSolomon}
use Rattle.reed_solomon.specs.Coding.{coding}
use Rattle.stack.specs.Meaning.{StageMeaning, CarrierMeaning, stacked, Meets}
use Rattle.stack.specs.Optional.{with_stage, MeetsIfAny}
use Rattle.stack.specs.Stacks.{Composed}
use Rattle.stages.specs.declared.check.CheckByte.{CheckByte}
use Rattle.stages.specs.declared.interleaver.Interleaver.{Interleaver}
use Rattle.stages.specs.declared.randomiser.Randomiser.{Randomiser}
use Rattle.stages.specs.Checking.{checking}
use Rattle.stages.specs.Interleaving.{interleaving}
use Rattle.stages.specs.Randomising.{randomising}
use Rattle.limits.specs.declared.numbers.PlanNumbers.{PlanNumbers}
use Rattle.limits.specs.Limits.{coded_length}
use Rattle.plan.specs.Stacks.{field_of, plan_stages, plan_on}

-- what each stage means
abbrev pub check_meaning : CheckByte → StageMeaning
check_meaning s = checking s.length

abbrev pub randomiser_meaning : Randomiser → StageMeaning
randomiser_meaning s = randomising s.seed s.unit s.length

abbrev pub code_meaning : ReedSolomon AnyField → StageMeaning
code_meaning s = coding (chosen_field s.field) s.root s.words s.length s.errors

abbrev pub interleaver_meaning : Interleaver → StageMeaning
interleaver_meaning s = interleaving s.block.grid.rows s.block.grid.columns

-- a stage that may be left out, as a list of stages
abbrev pub stage_list : {S : Type 0} → (S → StageMeaning) → Option S → List StageMeaning
stage_list meaning None = []
stage_list meaning (Some s) = meaning s ∷ []

-- the code of a plan, by its field, root, words, length and errors
pub record CodeOf (p : PlanNumbers) (f : AnyField) (r w k e : ℕ) : Type 0 where
  pub field_is : chosen_field f ≡ field_of p.field
  pub root_is : r ≡ p.root
  pub words_is : w ≡ p.words
  pub length_is : k ≡ p.length
  pub errors_is : e ≡ p.errors

-- what code and interleaver on a carrier mean
abbrev pub low_meaning : {R : Type 0} → ReedSolomon AnyField → Interleaver → CarrierMeaning R → CarrierMeaning R
low_meaning code block c = stacked (code_meaning code) (stacked (interleaver_meaning block) c)

-- what a coder means, by its parts
abbrev pub coder_meaning : {R : Type 0} → Option CheckByte → Option Randomiser → ReedSolomon AnyField → Interleaver → CarrierMeaning R → CarrierMeaning R
coder_meaning check randomiser code block c = with_stage check_meaning check (with_stage randomiser_meaning randomiser (low_meaning code block c))

-- that the parts of a coder fit one another, on a carrier whose own parts fit where P holds
abbrev pub CoderFits : {R : Type 0} → Type 0 → Option CheckByte → Option Randomiser → ReedSolomon AnyField → Interleaver → CarrierMeaning R → Type 0
CoderFits P check randomiser code block c =
    (((P × Meets (interleaver_meaning block) c) × Meets (code_meaning code) (stacked (interleaver_meaning block) c))
    × MeetsIfAny randomiser_meaning randomiser (low_meaning code block c))
    × MeetsIfAny check_meaning check (with_stage randomiser_meaning randomiser (low_meaning code block c))

-- a coder whose parts are those of a plan on a carrier that fits where P holds: it means the plan on that carrier, and fits, and the plan's stages compose there
pub record Coded {R : Type 0} (p : PlanNumbers) (unit : ℕ) (P : Type 0) (c : CarrierMeaning R) (m : CarrierMeaning R) (F : Type 0) : Type 0 where
  pub means : m ≡ plan_on p unit c
  pub fits : P → F
  pub composed : P → Composed (plan_stages p unit) c

-- the plan's stages cannot stand on a carrier: its body is of another length than the plan's words, or it is too high
abbrev pub Unfitting : {R : Type 0} → PlanNumbers → ℕ → CarrierMeaning R → Type 0
Unfitting p unit c = c.body ≡ coded_length p → c.height + length (plan_stages p unit) ≤ 32 → ⊥

-- a carrier alone that is as long as the plan's words
pub record Footing {R : Type 0} (p : PlanNumbers) (c : CarrierMeaning R) : Type 0 where
  pub body : c.body ≡ coded_length p
  pub byte_need : c.byte_need ≡ coded_length p
  pub alone : c.height ≡ 1
