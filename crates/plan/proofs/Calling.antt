-- Calls of a plan's coder, as calls by the plan.
use Rattle.std.proofs.Common.{◌≡◌, ℕ, ◌+◌, ◌*◌, ◌≤◌, Bool, true, false, cond, List, length, take, Ok, Err, Result, sym, ap, ◌∙◌, subst, arith, MatchResult}
use Rattle.convolution.specs.declared.rate.Rate.{Rate}
use Rattle.line.specs.Line.{block}
use Rattle.stack.specs.declared.corrections.Corrections.{Corrections}
use Rattle.stack.specs.declared.fault.CarrierFault.{CarrierFault}
use Rattle.stack.specs.declared.fault.Misfit.{Misfit}
use Rattle.stack.specs.declared.fault.Refusal.{Refusal}
use Rattle.stack.specs.Calls.{judged, told, Sent, Held, Put, Get}
use Rattle.stack.specs.Faults.{early}
use Rattle.stack.specs.Meaning.{Received, CarrierMeaning}
use Rattle.stack.specs.Stacks.{stack_of, encoded_down, Composed}
use Rattle.limits.specs.declared.numbers.PlanNumbers.{PlanNumbers}
use Rattle.plan.specs.Calls.{plan_sent, PutBlock, PlanPut, GetBlock, as_given}
use Rattle.plan.specs.Coders.{Coded, Footing}
use Rattle.limits.specs.Limits.{coded_length, body_length, rate_of}
use Rattle.limits.specs.Limits.{on_bare, air_length}
use Rattle.plan.specs.Stacks.{plan_stages, plan_on}
use Rattle.plan.proofs.Standing.{top_plan, longest_plan, stage_count_high}
use Rattle.limits.proofs.Within.{Sound}

-- a stack on a carrier of height 1 is not too high
pub low_enough : (p : PlanNumbers) (unit h : ℕ) → h ≡ 1 → h + length (plan_stages p unit) ≤ 32
low_enough p unit h e = omega (arith, stage_count_high p unit)

-- calls of a carrier whose parts fit, by numbers that are its own

put_fitting : {R : Type 0} (F : Type 0) (c : CarrierMeaning R) (need air : ℕ) (a b m y : List ℕ) (r : Result (Unit {0}) Misfit) (a' b' m' : List ℕ) → F → c.byte_need ≡ need → c.air ≡ air
    → c.sent (take c.body a) ≡ y → Put F c a b m r a' b' m'
    → MatchResult (judged need (length a) (length b) 0 0 air (length m)) (λ _. (r ≡ Ok tt) × Sent y a b a' b' m') (λ f. (r ≡ Err f) × (a' ≡ a) × (b' ≡ b) × (m' ≡ m))
put_fitting F c need air a b m y r a' b' m' fit e f s k =
    subst (λ j. MatchResult j (λ _. (r ≡ Ok tt) × Sent y a b a' b' m') (λ f. (r ≡ Err f) × (a' ≡ a) × (b' ≡ b) × (m' ≡ m))) (λ i. judged (e i) (length a) (length b) 0 0 (f i) (length m))
    (go (judged c.byte_need (length a) (length b) 0 0 c.air (length m)) k)
  where
    go : (j : Result (Unit {0}) Misfit) → MatchResult j (λ _. (r ≡ Ok tt) × (F → Sent (c.sent (take c.body a)) a b a' b' m')) (λ f. (r ≡ Err f) × (a' ≡ a) × (b' ≡ b) × (m' ≡ m))
        → MatchResult j (λ _. (r ≡ Ok tt) × Sent y a b a' b' m') (λ f. (r ≡ Err f) × (a' ≡ a) × (b' ≡ b) × (m' ≡ m))
    go (Ok u) w = (w.0, subst (λ z. Sent z a b a' b' m') s (w.1 fit))
    go (Err f) w = w

get_fitting : {R : Type 0} (F : Type 0) (c : CarrierMeaning R) (need steps air : ℕ) (a b t : List ℕ) (rs : List R) (v : Result Received CarrierFault) (r : Result Corrections Refusal) (a' b' t' : List ℕ) → F
    → c.byte_need ≡ need → c.step_need ≡ steps → c.air ≡ air → c.got rs ≡ v → Get F c a b t rs r a' b' t'
    → MatchResult (judged need (length a) (length b) steps (length t) air (length rs)) (λ _. (r ≡ told v) × Held v a b t a' b' t') (λ f. (r ≡ Err (early f)) × (a' ≡ a) × (b' ≡ b) × (t' ≡ t))
get_fitting F c need steps air a b t rs v r a' b' t' fit e g f s k =
    subst (λ j. MatchResult j (λ _. (r ≡ told v) × Held v a b t a' b' t') (λ f. (r ≡ Err (early f)) × (a' ≡ a) × (b' ≡ b) × (t' ≡ t)))
    (λ i. judged (e i) (length a) (length b) (g i) (length t) (f i) (length rs))
    (go (judged c.byte_need (length a) (length b) c.step_need (length t) c.air (length rs)) k)
  where
    go : (j : Result (Unit {0}) Misfit) → MatchResult j (λ _. F → (r ≡ told (c.got rs)) × Held (c.got rs) a b t a' b' t') (λ f. (r ≡ Err (early f)) × (a' ≡ a) × (b' ≡ b) × (t' ≡ t))
        → MatchResult j (λ _. (r ≡ told v) × Held v a b t a' b' t') (λ f. (r ≡ Err (early f)) × (a' ≡ a) × (b' ≡ b) × (t' ≡ t))
    go (Ok u) w = subst (λ z. (r ≡ told z) × Held z a b t a' b' t') s (w fit)
    go (Err f) w = w

module _ {R P F : Type 0} (p : PlanNumbers) (unit : ℕ) (s : Sound p) {c m : CarrierMeaning R} (coded : Coded p unit P c m F) (fit : P) (foot : Footing p c) where
  whole : Composed (plan_stages p unit) c
  whole = coded.composed fit

  is_stack : m ≡ stack_of (plan_stages p unit) c
  unfolding plan_on
  is_stack = coded.means

  need_is : m.byte_need ≡ coded_length p
  need_is = ap (λ x. x.byte_need) is_stack ∙ whole.byte_need ∙ longest_plan p unit s c foot.body foot.byte_need

  air_is : m.air ≡ c.air
  air_is = ap (λ x. x.air) is_stack ∙ whole.air

  steps_are : m.step_need ≡ c.step_need
  steps_are = ap (λ x. x.step_need) is_stack ∙ whole.step_need

  body_is : m.body ≡ body_length p
  body_is = ap (λ x. x.body) is_stack ∙ whole.body ∙ top_plan p unit s c foot.body

  sent_is : (a : List ℕ) → m.sent (take m.body a) ≡ c.sent (encoded_down (plan_stages p unit) (take (body_length p) a))
  sent_is a = ap (λ n. m.sent (take n a)) body_is ∙ ap (λ x. x.sent (take (body_length p) a)) is_stack ∙ whole.sent (take (body_length p) a)

  pub put_planned : (a b x : List ℕ) (r : Result (Unit {0}) Misfit) (a' b' x' : List ℕ) → Put F m a b x r a' b' x'
      → PutBlock p c.air (c.sent (encoded_down (plan_stages p unit) (take (body_length p) a))) a b x r a' b' x'
  put_planned a b x r a' b' x' k =
      put_fitting F m (coded_length p) c.air a b x (c.sent (encoded_down (plan_stages p unit) (take (body_length p) a))) r a' b' x' (coded.fits fit) need_is air_is (sent_is a) k

  pub get_planned : (a b t : List ℕ) (rs : List R) (r : Result Corrections Refusal) (a' b' t' : List ℕ) → Get F m a b t rs r a' b' t'
      → GetBlock p c.air c.step_need as_given ((plan_on p unit c).got rs) a b t rs r a' b' t'
  get_planned a b t rs r a' b' t' k =
      get_fitting F m (coded_length p) c.step_need c.air a b t rs ((plan_on p unit c).got rs) r a' b' t' (coded.fits fit) need_is steps_are air_is (ap (λ x. x.got rs) coded.means) k

-- the block of a plan on its own carrier

put_same : (p : PlanNumbers) (n n' : ℕ) (y y' a b m : List ℕ) (r : Result (Unit {0}) Misfit) (a' b' m' : List ℕ) → n ≡ n' → y ≡ y' → PutBlock p n y a b m r a' b' m' → PutBlock p n' y' a b m r a' b' m'
put_same p n n' y y' a b m r a' b' m' e f k = subst (λ j. PutBlock p j y' a b m r a' b' m') e (subst (λ z. PutBlock p n z a b m r a' b' m') f k)

pub put_bare : (p : PlanNumbers) (unit n : ℕ) (a b m : List ℕ) (r : Result (Unit {0}) Misfit) (a' b' m' : List ℕ) → on_bare p ≡ true → n ≡ coded_length p
    → PutBlock p n (encoded_down (plan_stages p unit) (take (body_length p) a)) a b m r a' b' m' → PlanPut p unit a b m r a' b' m'
unfolding plan_sent
put_bare p unit n a b m r a' b' m' on e k =
    let y : List ℕ = encoded_down (plan_stages p unit) (take (body_length p) a) in
    put_same p n (air_length p) y (plan_sent p unit (take (body_length p) a)) a b m r a' b' m' (e ∙ ap (λ (t : Bool). cond t (coded_length p) (p.rows * p.columns)) (sym on))
    (ap (λ (t : Bool). cond t y (block (rate_of p.rate) p.rows p.columns y)) (sym on)) k

pub put_line : (p : PlanNumbers) (unit : ℕ) (rate : Rate) (rows columns : ℕ) (a b m : List ℕ) (r : Result (Unit {0}) Misfit) (a' b' m' : List ℕ) → on_bare p ≡ false → rate ≡ rate_of p.rate
    → rows ≡ p.rows → columns ≡ p.columns → PutBlock p (rows * columns) (block rate rows columns (encoded_down (plan_stages p unit) (take (body_length p) a))) a b m r a' b' m' → PlanPut p unit a b m r a' b' m'
unfolding plan_sent
put_line p unit rate rows columns a b m r a' b' m' off e f g k =
    let y : List ℕ = encoded_down (plan_stages p unit) (take (body_length p) a) in
    put_same p (rows * columns) (air_length p) (block rate rows columns y) (plan_sent p unit (take (body_length p) a)) a b m r a' b' m'
    ((λ i. f i * g i) ∙ ap (λ (t : Bool). cond t (coded_length p) (p.rows * p.columns)) (sym off))
    ((λ i. block (e i) (f i) (g i) y) ∙ ap (λ (t : Bool). cond t y (block (rate_of p.rate) p.rows p.columns y)) (sym off)) k
