-- What each call by a plan answers and leaves, for every body and every list of readings. A prime marks what is there at the return.
use Rattle.std.specs.Prelude.{◌≡◌, ℕ, Bool, true, false, cond, List, length, take, Ok, Err, Result, MatchResult}
use Rattle.line.specs.Line.{block}
use Rattle.stack.specs.declared.corrections.Corrections.{Corrections}
use Rattle.stack.specs.declared.fault.CarrierFault.{CarrierFault}
use Rattle.stack.specs.declared.fault.Misfit.{Misfit}
use Rattle.stack.specs.declared.fault.Refusal.{Refusal}
use Rattle.stack.specs.Calls.{judged, told, Sent, Held}
use Rattle.stack.specs.Faults.{early}
use Rattle.stack.specs.Meaning.{Received}
use Rattle.stack.specs.Stacks.{encoded_down}
use Rattle.limits.specs.declared.numbers.PlanNumbers.{PlanNumbers}
use Rattle.plan.specs.declared.refusal.PlanRefusal.{PlanRefusal}
use Rattle.plan.specs.declared.refusal.PlanRefusal.TheVariants.{OtherCarrier}
use Rattle.limits.specs.Limits.{coded_length, body_length, rate_of}
use Rattle.plan.specs.Refusals.{refused_by_plan}
use Rattle.limits.specs.Limits.{on_bare, air_length, step_count}
use Rattle.plan.specs.Stacks.{plan_stages}

-- the symbols of the bytes that the stages hand down: on the bare carrier the bytes, on the line its block
abbrev pub symbols_of : PlanNumbers → List ℕ → List ℕ
symbols_of p y = cond (on_bare p) y (block (rate_of p.rate) p.rows p.columns y)

-- the block of a body
unfoldable pub plan_sent : PlanNumbers → ℕ → List ℕ → List ℕ
plan_sent p unit x = symbols_of p (encoded_down (plan_stages p unit) x)

-- a call of `put` that sends the block y of so many symbols
abbrev pub PutBlock : PlanNumbers → ℕ → List ℕ → List ℕ → List ℕ → List ℕ → Result (Unit {0}) Misfit → List ℕ → List ℕ → List ℕ → Type 0
PutBlock p air y a b m r a' b' m' =
    MatchResult (judged (coded_length p) (length a) (length b) 0 0 air (length m)) (λ _. (r ≡ Ok tt) × Sent y a b a' b' m')
    (λ f. (r ≡ Err f) × (a' ≡ a) × (b' ≡ b) × (m' ≡ m))

-- a call of `put` by a plan: what does not fit is refused and all left as found, else the block of the body is sent
abbrev pub PlanPut : PlanNumbers → ℕ → List ℕ → List ℕ → List ℕ → Result (Unit {0}) Misfit → List ℕ → List ℕ → List ℕ → Type 0
PlanPut p unit a b m r a' b' m' = PutBlock p (air_length p) (plan_sent p unit (take (body_length p) a)) a b m r a' b' m'

-- an answer of the plan's stack, as the plan gives it
abbrev pub by_plan : Result Corrections Refusal → Result Corrections PlanRefusal
by_plan (Ok n) = Ok n
by_plan (Err f) = Err (refused_by_plan f)

-- an answer of the stack as it is
abbrev pub as_given : Result Corrections Refusal → Result Corrections Refusal
as_given r = r

-- a call that reads a block of so many symbols in so many steps, whose readings give v
abbrev pub GetBlock : {R E : Type 0} → PlanNumbers → ℕ → ℕ → (Result Corrections Refusal → Result Corrections E) → Result Received CarrierFault → List ℕ → List ℕ → List ℕ → List R → Result Corrections E → List ℕ → List ℕ → List ℕ → Type 0
GetBlock p air steps give v a b t rs r a' b' t' =
    MatchResult (judged (coded_length p) (length a) (length b) steps (length t) air (length rs)) (λ _. (r ≡ give (told v)) × Held v a b t a' b' t')
    (λ f. (r ≡ give (Err (early f))) × (a' ≡ a) × (b' ≡ b) × (t' ≡ t))

-- a call that reads a block by a plan, on its own carrier or on the other: readings of the other carrier are refused and all left as found
abbrev pub PlanGet : {R : Type 0} → Bool → PlanNumbers → Result Received CarrierFault → List ℕ → List ℕ → List ℕ → List R → Result Corrections PlanRefusal → List ℕ → List ℕ → List ℕ → Type 0
PlanGet true p v a b t rs r a' b' t' = GetBlock p (air_length p) (step_count p) by_plan v a b t rs r a' b' t'
PlanGet false p v a b t rs r a' b' t' = (r ≡ Err OtherCarrier) × (a' ≡ a) × (b' ≡ b) × (t' ≡ t)
