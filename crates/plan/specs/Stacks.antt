-- The stack of a plan: check byte on randomiser on Reed-Solomon on block interleaver on its carrier.
use Rattle.std.specs.Prelude.{ℕ, cond, List, [], ◌∷◌, ◌++◌, ◌==◌}
use Rattle.galois.specs.Bytes.{ByteField}
use Rattle.galois.specs.Polynomials.{field_1, field_2}
use Rattle.line.specs.Line.{lining}
use Rattle.reed_solomon.specs.Coding.{coding}
use Rattle.stack.specs.Bare.{bare}
use Rattle.stack.specs.Meaning.{StageMeaning, CarrierMeaning}
use Rattle.stack.specs.Stacks.{stack_of}
use Rattle.stages.specs.Checking.{checking}
use Rattle.stages.specs.Interleaving.{interleaving}
use Rattle.stages.specs.Randomising.{randomising}
use Rattle.limits.specs.declared.numbers.PlanNumbers.{PlanNumbers}
use Rattle.limits.specs.Limits.{data_length, word_length, coded_length, body_length, rate_of}

-- the eleven numbers of a plan, and the unit of bytes at which its randomiser starts anew
pub record Layout : Type 0 where
  pub numbers : PlanNumbers
  pub unit : ℕ

-- the fields by number
abbrev pub field_of : ℕ → ByteField
field_of n = cond (n == 1) field_1 field_2

-- the check byte, where there is one
abbrev pub check_part : PlanNumbers → List StageMeaning
check_part p = cond (p.check == 0) [] (checking (body_length p) ∷ [])

-- the randomiser, where there is one, started anew at every unit
abbrev pub randomiser_part : PlanNumbers → ℕ → List StageMeaning
randomiser_part p unit = cond (p.seed == 0) [] (randomising p.seed unit (data_length p) ∷ [])

-- the outer code on the interleaver of its words
abbrev pub code_part : PlanNumbers → List StageMeaning
code_part p = coding (field_of p.field) p.root p.words p.length p.errors ∷ interleaving p.words (word_length p) ∷ []

-- the stages of a plan, the top one first; those that it does not use are left out
abbrev pub plan_stages : PlanNumbers → ℕ → List StageMeaning
plan_stages p unit = check_part p ++ (randomiser_part p unit ++ code_part p)

-- the plan's stages on a carrier
unfoldable pub plan_on : {R : Type 0} → PlanNumbers → ℕ → CarrierMeaning R → CarrierMeaning R
plan_on p unit c = stack_of (plan_stages p unit) c

-- the stack of a plan on the bare carrier
abbrev pub bare_plan : PlanNumbers → ℕ → CarrierMeaning ℕ
bare_plan p unit = plan_on p unit (bare (coded_length p))

-- the stack of a plan on the line, for readings of a kind
abbrev pub line_plan : {R : Type 0} → (R → ℕ → ℕ) → (ℕ → R) → PlanNumbers → ℕ → CarrierMeaning R
line_plan cost clean p unit = plan_on p unit (lining cost clean (rate_of p.rate) p.rows p.columns (coded_length p))
