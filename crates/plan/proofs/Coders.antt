-- The parts of a coder are the stages of its plan.
use Rattle.std.proofs.Common.{◌≡◌, ℕ, ◌+◌, ◌*◌, ◌<◌, ◌≤◌, Bool, cond, List, [], ◌∷◌, ◌++◌, length, Some, None, Option, sym, ap, ◌∙◌, subst, ap₂, arith, length-append, MatchOption}
use Rattle.std.proofs.lemmas.Bool.{ne_eqb}
use Rattle.galois.specs.declared.chosen.AnyField.{AnyField}
use Rattle.reed_solomon.specs.declared.stage.ReedSolomon.{ReedSolomon}
use Rattle.reed_solomon.specs.Coding.{coding}
use Rattle.stack.specs.Meaning.{StageMeaning, CarrierMeaning, Meets}
use Rattle.stack.specs.Optional.{with_stage, MeetsIfAny}
use Rattle.stack.specs.Rules.{CarrierRule}
use Rattle.stack.specs.Stacks.{stack_of, Stand, Composed}
use Rattle.stack.proofs.Composing.{stacks_compose}
use Rattle.stages.specs.declared.check.CheckByte.{CheckByte}
use Rattle.stages.specs.declared.interleaver.Interleaver.{Interleaver}
use Rattle.stages.specs.declared.randomiser.Randomiser.{Randomiser}
use Rattle.stages.specs.Checking.{checking}
use Rattle.stages.specs.Interleaving.{interleaving}
use Rattle.stages.specs.Randomising.{randomising, Randomises}
use Rattle.limits.specs.declared.numbers.PlanNumbers.{PlanNumbers}
use Rattle.plan.specs.Coders.{check_meaning, randomiser_meaning, code_meaning, interleaver_meaning, stage_list, CodeOf, low_meaning, coder_meaning, CoderFits, Coded, Unfitting}
use Rattle.limits.specs.Limits.{data_length, word_length, coded_length, body_length}
use Rattle.plan.specs.Stacks.{check_part, randomiser_part, code_part, plan_stages, plan_on}
use Rattle.plan.proofs.Standing.{stack_append, with_stage_list, stands_meets, random_stand, plan_stand}
use Rattle.limits.proofs.Within.{Sound}

-- what is made within its limits is there

pub check_made : {n : ℕ} (r : Option CheckByte) → MatchOption r ((1 ≤ n × n < 98304) → ⊥) (λ s. s.length ≡ n) → 1 ≤ n → n < 98304 → stage_list check_meaning r ≡ checking n ∷ []
check_made None made low high = absurd (made (low, high))
check_made (Some s) made low high = ap (λ m. checking m ∷ []) made

pub check_there : (p : PlanNumbers) → (p.check ≡ 0 → ⊥) → checking (body_length p) ∷ [] ≡ check_part p
check_there p some = ap (λ (b : Bool). cond b [] (checking (body_length p) ∷ [])) (sym (ne_eqb p.check 0 some))

pub randomiser_made : {seed unit n : ℕ} (r : Option Randomiser) → MatchOption r (Randomises seed unit n → ⊥) (λ s. (s.seed ≡ seed) × (s.unit ≡ unit) × (s.length ≡ n)) → Randomises seed unit n
    → stage_list randomiser_meaning r ≡ randomising seed unit n ∷ []
randomiser_made None made within = absurd (made within)
randomiser_made (Some s) made within = λ i. randomising (made.0 i) (made.1 i) (made.2 i) ∷ []

pub randomiser_there : (p : PlanNumbers) (unit : ℕ) → (p.seed ≡ 0 → ⊥) → randomising p.seed unit (data_length p) ∷ [] ≡ randomiser_part p unit
randomiser_there p unit some = ap (λ (b : Bool). cond b [] (randomising p.seed unit (data_length p) ∷ [])) (sym (ne_eqb p.seed 0 some))

-- the code, and the interleaver of its words
pub code_there : (p : PlanNumbers) (code set : ReedSolomon AnyField) (block : Interleaver) → set ≡ code → CodeOf p code.field code.root code.words code.length code.errors
    → block.block.grid.rows ≡ code.words → block.block.grid.columns ≡ code.length + 2 * code.errors → code_meaning set ∷ interleaver_meaning block ∷ [] ≡ code_part p
code_there p code set block same of rows columns =
    let wide : block.block.grid.columns ≡ word_length p = columns ∙ ap₂ (λ k e. k + 2 * e) of.length_is of.errors_is in
    ap (λ k. code_meaning k ∷ interleaver_meaning block ∷ []) same
    ∙ (λ i. coding (of.field_is i) (of.root_is i) (of.words_is i) (of.length_is i) (of.errors_is i) ∷ interleaving ((rows ∙ of.words_is) i) (wide i) ∷ [])

-- the whole

pub low_is : {R : Type 0} (p : PlanNumbers) (code : ReedSolomon AnyField) (block : Interleaver) (c : CarrierMeaning R) → code_meaning code ∷ interleaver_meaning block ∷ [] ≡ code_part p
    → low_meaning code block c ≡ stack_of (code_part p) c
unfolding stack_of
low_is p code block c e = ap (λ ss. stack_of ss c) e

pub middle_is : {R : Type 0} (p : PlanNumbers) (unit : ℕ) (randomiser : Option Randomiser) (low c : CarrierMeaning R) → stage_list randomiser_meaning randomiser ≡ randomiser_part p unit
    → low ≡ stack_of (code_part p) c → with_stage randomiser_meaning randomiser low ≡ stack_of (randomiser_part p unit ++ code_part p) c
middle_is p unit randomiser low c e below =
    with_stage_list randomiser_meaning randomiser low ∙ ap₂ stack_of e below ∙ sym (stack_append (randomiser_part p unit) (code_part p) c)

pub coder_is : {R : Type 0} (p : PlanNumbers) (unit : ℕ) (check : Option CheckByte) (middle c : CarrierMeaning R) → stage_list check_meaning check ≡ check_part p
    → middle ≡ stack_of (randomiser_part p unit ++ code_part p) c → with_stage check_meaning check middle ≡ plan_on p unit c
unfolding plan_on
coder_is p unit check middle c e below =
    with_stage_list check_meaning check middle ∙ ap₂ stack_of e below ∙ sym (stack_append (check_part p) (randomiser_part p unit ++ code_part p) c)

-- a stage that is left out or stands on the stages below meets them
pub meets_on : {S R : Type 0} (meaning : S → StageMeaning) (s : Option S) (xs ss : List StageMeaning) (c m : CarrierMeaning R) → CarrierRule c → Stand ss c → Stand (xs ++ ss) c
    → c.height + length (xs ++ ss) ≤ 32 → stage_list meaning s ≡ xs → m ≡ stack_of ss c → MeetsIfAny meaning s m
meets_on meaning s xs ss c m rule below stand high e is =
    let count = length-append xs ss in
    let low : c.height + length ss ≤ 32 = omega arith in
    subst (MeetsIfAny meaning s) (sym is)
    (stands_meets meaning s ss c (stacks_compose c rule ss below low) (subst (λ ys. Stand (ys ++ ss) c) (sym e) stand) (subst (λ ys. c.height + length (ys ++ ss) ≤ 32) (sym e) high))

module _ {R : Type 0} (p : PlanNumbers) (unit : ℕ) (s : Sound p) (c : CarrierMeaning R) (rule : CarrierRule c) (meets : c.body ≡ coded_length p) (high : c.height + length (plan_stages p unit) ≤ 32) where
  pub check_meets : (check : Option CheckByte) (m : CarrierMeaning R) → stage_list check_meaning check ≡ check_part p → m ≡ stack_of (randomiser_part p unit ++ code_part p) c
      → MeetsIfAny check_meaning check m
  check_meets check m e is =
      meets_on check_meaning check (check_part p) (randomiser_part p unit ++ code_part p) c m rule (random_stand p unit s c meets) (plan_stand p unit s c meets) high e is

-- a coder whose parts fit is at most 32 high
parts_room : {R : Type 0} (P : Type 0) (check : Option CheckByte) (randomiser : Option Randomiser) (code : ReedSolomon AnyField) (block : Interleaver) (c : CarrierMeaning R) → CoderFits P check randomiser code block c
    → c.height + length (stage_list check_meaning check ++ (stage_list randomiser_meaning randomiser ++ (code_meaning code ∷ interleaver_meaning block ∷ []))) ≤ 32
parts_room P None None code block c fit = omega (arith, fit.0.0.1.below)
parts_room P None (Some t) code block c fit = omega (arith, fit.0.1.below)
parts_room P (Some s) None code block c fit = omega (arith, fit.1.below)
parts_room P (Some s) (Some t) code block c fit = omega (arith, fit.1.below)

pub fits_room : {R : Type 0} (P : Type 0) (p : PlanNumbers) (unit : ℕ) (check : Option CheckByte) (randomiser : Option Randomiser) (code : ReedSolomon AnyField) (block : Interleaver) (c : CarrierMeaning R)
    → stage_list check_meaning check ≡ check_part p → stage_list randomiser_meaning randomiser ≡ randomiser_part p unit → code_meaning code ∷ interleaver_meaning block ∷ [] ≡ code_part p
    → CoderFits P check randomiser code block c → c.height + length (plan_stages p unit) ≤ 32
fits_room P p unit check randomiser code block c a b d fit =
    subst (λ (n : ℕ). c.height + n ≤ 32) (λ i. length (a i ++ (b i ++ d i))) (parts_room P check randomiser code block c fit)

abbrev lower_below : List StageMeaning → ℕ
lower_below [] = 0
lower_below (x ∷ []) = 0
lower_below (x ∷ y ∷ ss) = y.lower

-- the body of a carrier that fits under a plan's interleaver
pub fits_body : {R : Type 0} (p : PlanNumbers) (code : ReedSolomon AnyField) (block : Interleaver) (c : CarrierMeaning R) → code_meaning code ∷ interleaver_meaning block ∷ [] ≡ code_part p
    → Meets (interleaver_meaning block) c → c.body ≡ coded_length p
fits_body p code block c d meets = sym meets.lengths ∙ ap lower_below d

-- the parts of a coder, whose foot is the carrier that was given
module _ {R C : Type 0} (meaning : C → CarrierMeaning R) (fits : C → Type 0) (rule : (x : C) → fits x → CarrierRule (meaning x)) (p : PlanNumbers) (unit : ℕ) (s : Sound p)
    (check : Option CheckByte) (randomiser : Option Randomiser) (code : ReedSolomon AnyField) (block : Interleaver) (foot carrier : C) (same : foot ≡ carrier)
    (a : stage_list check_meaning check ≡ check_part p) (b : stage_list randomiser_meaning randomiser ≡ randomiser_part p unit) (d : code_meaning code ∷ interleaver_meaning block ∷ [] ≡ code_part p) where
  low : low_meaning code block (meaning foot) ≡ stack_of (code_part p) (meaning foot)
  low = low_is p code block (meaning foot) d

  middle : with_stage randomiser_meaning randomiser (low_meaning code block (meaning foot)) ≡ stack_of (randomiser_part p unit ++ code_part p) (meaning foot)
  middle = middle_is p unit randomiser (low_meaning code block (meaning foot)) (meaning foot) b low

  -- parts that fit are the plan's coder
  pub coder_made : (fits carrier → CoderFits (fits foot) check randomiser code block (meaning foot))
      → Coded p unit (fits carrier) (meaning carrier) (coder_meaning check randomiser code block (meaning foot)) (CoderFits (fits foot) check randomiser code block (meaning foot))
  coder_made fit = record {
    means = coder_is p unit check (with_stage randomiser_meaning randomiser (low_meaning code block (meaning foot))) (meaning foot) a middle ∙ ap (λ x. plan_on p unit (meaning x)) same;
    fits = fit;
    composed = λ P.
        subst (λ x. Composed (plan_stages p unit) (meaning x)) same
        (stacks_compose (meaning foot) (rule foot (fit P).0.0.0.0) (plan_stages p unit)
        (plan_stand p unit s (meaning foot) (fits_body p code block (meaning foot) d (fit P).0.0.0.1))
        (fits_room (fits foot) p unit check randomiser code block (meaning foot) a b d (fit P)));
  }

  -- a check byte that does not meet what is below it: the carrier does not fit the plan
  pub check_unfit : (F : Type 0) → (F → fits foot) → (fits carrier → F) → (F → MeetsIfAny check_meaning check (with_stage randomiser_meaning randomiser (low_meaning code block (meaning foot))) → ⊥)
      → fits carrier → Unfitting p unit (meaning carrier)
  check_unfit F down fit refuse P meets high =
      refuse (fit P) (check_meets p unit s (meaning foot) (rule foot (down (fit P))) (ap (λ x. (meaning x).body) same ∙ meets) (subst (λ x. (meaning x).height + length (plan_stages p unit) ≤ 32) (sym same) high)
      check (with_stage randomiser_meaning randomiser (low_meaning code block (meaning foot))) a middle)
