-- The stages of a plan stand on every carrier whose body is as long as the plan's words.
use Rattle.std.proofs.Common.{◌≡◌, ℕ, ◌+◌, ◌*◌, ◌≤◌, Bool, true, false, cond, eqb, List, [], ◌∷◌, ◌++◌, length, Some, None, Option, sym, refl, ap, ◌∙◌, mul-add, arith}
use Rattle.std.proofs.lemmas.Bool.{eqb-true, eqb-false}
use Rattle.galois.specs.Bytes.{FieldRule}
use Rattle.galois.specs.Polynomials.{field_1, field_2}
use Rattle.galois.specs.Rules.{rule_1, rule_2}
use Rattle.reed_solomon.specs.Coding.{coding}
use Rattle.reed_solomon.specs.Coded.{coding_rule}
use Rattle.stack.specs.Meaning.{StageMeaning, CarrierMeaning, stacked}
use Rattle.stack.specs.Optional.{with_stage, MeetsIfAny}
use Rattle.stack.specs.Rules.{StageRule}
use Rattle.stack.specs.Stacks.{stack_of, top_body, Stand, longest, Composed}
use Rattle.stages.specs.Checking.{checking}
use Rattle.stages.specs.Interleaving.{interleaving}
use Rattle.stages.specs.Randomising.{randomising}
use Rattle.stages.specs.Checked.{checking_rule}
use Rattle.stages.specs.Keyed.{randomising_rule}
use Rattle.stages.specs.Moved.{interleaving_rule}
use Rattle.limits.specs.declared.numbers.PlanNumbers.{PlanNumbers}
use Rattle.plan.specs.Coders.{stage_list}
use Rattle.limits.specs.Limits.{data_length, word_length, coded_length, body_length}
use Rattle.plan.specs.Stacks.{field_of, randomiser_part, code_part, plan_stages}
use Rattle.limits.proofs.Within.{Sound, data_low, data_high, coded_high}

-- lists of stages

pub stack_append : {R : Type 0} (xs ys : List StageMeaning) (c : CarrierMeaning R) → stack_of (xs ++ ys) c ≡ stack_of xs (stack_of ys c)
unfolding stack_of
stack_append [] ys c = refl
stack_append (x ∷ xs) ys c = ap (stacked x) (stack_append xs ys c)

pub with_stage_list : {S R : Type 0} (meaning : S → StageMeaning) (s : Option S) (c : CarrierMeaning R) → with_stage meaning s c ≡ stack_of (stage_list meaning s) c
unfolding stack_of
with_stage_list meaning None c = refl
with_stage_list meaning (Some s) c = refl

-- a stage that stands on a composed stack meets it
pub stands_meets : {S R : Type 0} (meaning : S → StageMeaning) (s : Option S) (ss : List StageMeaning) (c : CarrierMeaning R) → Composed ss c → Stand (stage_list meaning s ++ ss) c
    → c.height + length (stage_list meaning s ++ ss) ≤ 32 → MeetsIfAny meaning s (stack_of ss c)
unfolding Stand
stands_meets meaning None ss c below stand high = tt
stands_meets meaning (Some s) ss c below stand high = record { lengths = stand.1 ∙ sym below.body; below = omega (arith, below.height) }

-- the rules of the stages

field_rule : (n : ℕ) → FieldRule (field_of n)
field_rule n = go (eqb n 1)
  where
    go : (b : Bool) → FieldRule (cond b field_1 field_2)
    go true = rule_1
    go false = rule_2

module _ (p : PlanNumbers) (unit : ℕ) (s : Sound p) where
  code_rule : StageRule (coding (field_of p.field) p.root p.words p.length p.errors)
  code_rule = coding_rule (field_of p.field) (field_rule p.field) p.root p.words p.length p.errors (record {
    root = s.code.root;
    words_low = s.code.words_low;
    words_high = s.code.words_high;
    data_low = s.code.length_low;
    errors_low = s.code.errors_low;
    errors_high = s.code.errors_high;
    room = s.code.room;
  })

  block_rule : StageRule (interleaving p.words (word_length p))
  block_rule = interleaving_rule p.words (word_length p) s.code.words_low (omega (arith, s.code.length_low)) (omega (arith, coded_high p s))

  module _ {R : Type 0} (c : CarrierMeaning R) (meets : c.body ≡ coded_length p) where
    pub code_stand : Stand (code_part p) c
    unfolding Stand top_body
    code_stand = (code_rule, refl, (block_rule, sym meets, tt))

    top_random : top_body (randomiser_part p unit ++ code_part p) c ≡ data_length p
    unfolding top_body
    top_random = go (eqb p.seed 0)
      where
        go : (b : Bool) → top_body (cond b [] (randomising p.seed unit (data_length p) ∷ []) ++ code_part p) c ≡ data_length p
        go true = refl
        go false = refl

    pub random_stand : Stand (randomiser_part p unit ++ code_part p) c
    unfolding Stand top_body
    random_stand = go (eqb p.seed 0)
      where
        go : (b : Bool) → Stand (cond b [] (randomising p.seed unit (data_length p) ∷ []) ++ code_part p) c
        go true = code_stand
        go false = (randomising_rule p.seed unit (data_length p) (data_low p s) (omega (arith, data_high p s)), refl, code_stand)

    pub plan_stand : Stand (plan_stages p unit) c
    unfolding Stand
    plan_stand = go (eqb p.check 0) refl
      where
        go : (b : Bool) → eqb p.check 0 ≡ b → Stand (cond b [] (checking (body_length p) ∷ []) ++ (randomiser_part p unit ++ code_part p)) c
        go true e = random_stand
        go false e =
            let one : p.check ≡ 1 = omega (arith, s.stages.check, eqb-false p.check 0 e) in
            let long : body_length p + 1 ≡ data_length p = omega (arith, s.stages.body, one) in
            (checking_rule (body_length p) s.stages.body (omega (arith, data_high p s)), long ∙ sym top_random, random_stand)

    pub top_plan : top_body (plan_stages p unit) c ≡ body_length p
    unfolding top_body
    top_plan = go (eqb p.check 0) refl
      where
        go : (b : Bool) → eqb p.check 0 ≡ b → top_body (cond b [] (checking (body_length p) ∷ []) ++ (randomiser_part p unit ++ code_part p)) c ≡ body_length p
        go true e =
            let none : p.check ≡ 0 = eqb-true p.check 0 e in
            let long : data_length p ≡ body_length p = omega (arith, none) in
            top_random ∙ long
        go false e = refl

    pub longest_plan : c.byte_need ≡ coded_length p → longest (plan_stages p unit) c ≡ coded_length p
    unfolding longest
    longest_plan need = go (eqb p.check 0) (eqb p.seed 0)
      where
        more : coded_length p ≡ data_length p + p.words * (2 * p.errors)
        more = mul-add p.words p.length (2 * p.errors)

        go : (b d : Bool) → longest (cond b [] (checking (body_length p) ∷ []) ++ (cond d [] (randomising p.seed unit (data_length p) ∷ []) ++ code_part p)) c ≡ coded_length p
        go true true = omega (arith, more)
        go true false = omega (arith, more)
        go false true = omega (arith, more)
        go false false = omega (arith, more)

-- how many stages a plan has at most
pub stage_count_high : (p : PlanNumbers) (unit : ℕ) → length (plan_stages p unit) ≤ 4
stage_count_high p unit = go (eqb p.check 0) (eqb p.seed 0)
  where
    go : (b d : Bool) → length (cond b [] (checking (body_length p) ∷ []) ++ (cond d [] (randomising p.seed unit (data_length p) ∷ []) ++ code_part p)) ≤ 4
    go true true = omega arith
    go true false = omega arith
    go false true = omega arith
    go false false = omega arith
