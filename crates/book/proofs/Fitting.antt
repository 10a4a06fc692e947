-- Calls by a plan whose buffers are long enough.
use Rattle.std.proofs.Common.{◌≡◌, ℕ, ◌+◌, ◌-◌, ◌*◌, ◌≤◌, Bool, true, false, cond, ◌&&◌, eqb, leb, List, ◌++◌, map, length, take, IfOk, None, Ok, Err, Option, Result, sym, refl, ap, ◌∙◌, subst, arith, eq-eqb}
use Rattle.std.proofs.lemmas.List.{length-replicate}
use Rattle.std.proofs.Math.Seq.{take-append_seam}
use Rattle.std.proofs.Math.Nat.{sub-zero}
use Rattle.std.proofs.lemmas.Bool.{le-leb}
use Rattle.std.proofs.lemmas.Result.{MatchResult-at_ok}
use Rattle.limits.specs.declared.numbers.PlanNumbers.{PlanNumbers}
use Rattle.plan.specs.Calls.{PlanPut, PlanGet, GetBlock, plan_sent, by_plan}
use Rattle.plan.specs.declared.refusal.PlanRefusal.{PlanRefusal}
use Rattle.limits.specs.Limits.{body_length, coded_length}
use Rattle.limits.specs.Limits.{on_bare, air_length, step_count}
use Rattle.plan.specs.Stacks.{line_plan}
use Rattle.limits.proofs.Within.{Sound, body_coded}
use Rattle.stack.specs.declared.corrections.Corrections.{Corrections}
use Rattle.stack.specs.declared.fault.CarrierFault.{CarrierFault}
use Rattle.stack.specs.declared.fault.Misfit.{Misfit}
use Rattle.stack.specs.Buffers.{padded, zeros}
use Rattle.stack.specs.Calls.{judged, told, Held}
use Rattle.stack.specs.Meaning.{Received}
use Rattle.stack.specs.declared.fault.Misfit.TheVariants.{Buffers, AirLength}
use Rattle.stack.specs.Bodies.{length-padded, take-padded}
use Rattle.book.specs.declared.fault.EntryFault.{EntryFault}
use Rattle.book.specs.Handing.{FirstOver, OnlyLate, Answered, part_after, first_after, ReadEntry}
use Rattle.book.specs.declared.fault.EntryFault.TheVariants.{Mark, Coding}
use Rattle.book.specs.Running.{read, read_marks, mark_of, first_over}
use Rattle.readings.specs.Readings.{hard_cost, clean_hard}

-- nothing is refused early
pub judged_ok : (need first second step_need steps air list : ℕ) → second ≡ first → need ≤ first → step_need ≤ steps → list ≡ air → judged need first second step_need steps air list ≡ Ok tt
judged_ok need first second step_need steps air list same enough more all =
    ap (λ (b : Bool). cond ((b && leb need first) && leb step_need steps) (cond (eqb list air) (Ok tt) (Err AirLength)) (Err Buffers)) (eq-eqb first second (sym same))
    ∙ ap (λ (b : Bool). cond (b && leb step_need steps) (cond (eqb list air) (Ok tt) (Err AirLength)) (Err Buffers)) (le-leb need first enough)
    ∙ ap (λ (b : Bool). cond b (cond (eqb list air) (Ok tt) (Err AirLength)) (Err Buffers)) (le-leb step_need steps more)
    ∙ ap (λ (b : Bool). cond b (Ok tt) (Err AirLength)) (eq-eqb list air all)

-- a body of the right length in buffers that are long enough is written
pub written : (p : PlanNumbers) (unit n : ℕ) (x a b m : List ℕ) (r : Result (Unit {0}) Misfit) (a' b' m' : List ℕ) → length x ≡ body_length p → body_length p ≤ n → a ≡ padded n x → length b ≡ n → coded_length p ≤ n → length m ≡ air_length p
    → PlanPut p unit a b m r a' b' m' → (m' ≡ plan_sent p unit x) × ((a' ≡ zeros n) × (b' ≡ zeros n))
written p unit n x a b m r a' b' m' long small is same room air put =
    let len : length a ≡ n = ap length is ∙ length-padded n x (omega arith) in
    let done = MatchResult-at_ok _ _ tt (judged_ok (coded_length p) (length a) (length b) 0 0 (air_length p) (length m) (same ∙ sym len) (omega arith) (omega arith) air) put in
    let sent = done.1 in
    (sent.symbols ∙ ap (plan_sent p unit) (take-padded n (body_length p) x a is long), (sent.first ∙ ap zeros len, sent.second ∙ ap zeros same))

-- a read whose buffers are long enough gives what its readings say
pub was_read : {R : Type 0} (p : PlanNumbers) (air steps : ℕ) (v : Result Received CarrierFault) (a b t : List ℕ) (rs : List R) (r : Result Corrections PlanRefusal) (a' b' t' : List ℕ)
    → length b ≡ length a → coded_length p ≤ length a → steps ≤ length t → length rs ≡ air
    → GetBlock p air steps by_plan v a b t rs r a' b' t' → (r ≡ by_plan (told v)) × Held v a b t a' b' t'
was_read p air steps v a b t rs r a' b' t' same room more all got =
    MatchResult-at_ok _ _ tt (judged_ok (coded_length p) (length a) (length b) steps (length t) air (length rs) same room more all) got

-- it is refused for what the readings say, if at all
told-late : (v : Result Received CarrierFault) → OnlyLate (by_plan (told v))
told-late (Ok g) = tt
told-late (Err f) = tt

pub only_late : (v : Result Received CarrierFault) (r : Result Corrections PlanRefusal) → r ≡ by_plan (told v) → OnlyLate r
only_late v r e = subst OnlyLate (sym e) (told-late v)

-- what is then handed up
handed-told : (v : Result Received CarrierFault) (n : ℕ) (a b t a' b' t' m m' a'' : List ℕ) (r : Result Corrections EntryFault) → length a' ≡ length a → Held v a b t a' b' t' → IfOk v (λ g. length g.body ≡ n) → m ≡ zeros n
    → Answered (by_plan (told v)) r → m' ≡ part_after (by_plan (told v)) a' m → a'' ≡ first_after (by_plan (told v)) a' → ReadEntry (read n v) a b t r m' a'' b' t'
handed-told (Ok g) n a b t a' b' t' m m' a'' r same held long empty ans part first =
    let len : length m ≡ n = ap length empty ∙ length-replicate n 0 in
    record {
      answer = ans;
      part = part ∙ take-padded (length a) (length m) g.body a' held.first (long ∙ sym len);
      first = first ∙ ap zeros same;
      second = held.second;
      steps = held.steps;
    }
handed-told (Err f) n a b t a' b' t' m m' a'' r same held long empty ans part first =
    record { answer = ans; part = part ∙ empty; first = first ∙ held.first; second = held.second; steps = held.steps }

pub handed_up : (v : Result Received CarrierFault) (n : ℕ) (a b t a' b' t' m m' a'' : List ℕ) (given : Result Corrections PlanRefusal) (r : Result Corrections EntryFault) → given ≡ by_plan (told v) → length a' ≡ length a → Held v a b t a' b' t'
    → IfOk v (λ g. length g.body ≡ n) → m ≡ zeros n
    → Answered given r → m' ≡ part_after given a' m → a'' ≡ first_after given a' → ReadEntry (read n v) a b t r m' a'' b' t'
handed_up v n a b t a' b' t' m m' a'' given r e same held long empty ans part first =
    handed-told v n a b t a' b' t' m m' a'' r same held long empty (subst (λ x. Answered x r) e ans) (part ∙ ap (λ x. part_after x a' m) e) (first ∙ ap (λ x. first_after x a') e)

-- a plan on its own carrier reads
pub on_its_own : {R : Type 0} (here : Bool) (p : PlanNumbers) (v : Result Received CarrierFault) (a b t : List ℕ) (rs : List R) (r : Result Corrections PlanRefusal) (a' b' t' : List ℕ) → here ≡ true
    → length b ≡ length a → coded_length p ≤ length a → step_count p ≤ length t → length rs ≡ air_length p
    → PlanGet here p v a b t rs r a' b' t' → (r ≡ by_plan (told v)) × Held v a b t a' b' t'
on_its_own here p v a b t rs r a' b' t' is same room more all got =
    was_read p (air_length p) (step_count p) v a b t rs r a' b' t' same room more all (subst (λ x. PlanGet x p v a b t rs r a' b' t') is got)

-- reading an entry by a plan, on its own carrier
module _ {R : Type 0} (here : Bool) (p : PlanNumbers) (v : Result Received CarrierFault) (a b t : List ℕ) (rs : List R) (given : Result Corrections PlanRefusal) (a' b' t' m : List ℕ)
    (is : here ≡ true) (same : length b ≡ length a) (room : coded_length p ≤ length a) (more : step_count p ≤ length t) (all : length rs ≡ air_length p) (empty : m ≡ zeros (body_length p))
    (got : PlanGet here p v a b t rs given a' b' t') where
  told_by : (given ≡ by_plan (told v)) × Held v a b t a' b' t'
  told_by = on_its_own here p v a b t rs given a' b' t' is same room more all got

  pub hands_up : Sound p → length a' ≡ length a → OnlyLate given × (length m ≤ length a')
  hands_up s len = (only_late v given told_by.0, omega (arith, ap length empty ∙ length-replicate (body_length p) 0, body_coded p s))

  pub entry_read : (m' a'' : List ℕ) (r : Result Corrections EntryFault) → length a' ≡ length a → IfOk v (λ g. length g.body ≡ body_length p)
      → Answered given r → m' ≡ part_after given a' m → a'' ≡ first_after given a' → ReadEntry (read (body_length p) v) a b t r m' a'' b' t'
  entry_read m' a'' r len long ans part first = handed_up v (body_length p) a b t a' b' t' m m' a'' given r told_by.0 len told_by.1 long empty ans part first

-- the air length of a plan on each carrier, and the steps of a bare one
pub air_bare : (p : PlanNumbers) → on_bare p ≡ true → air_length p ≡ coded_length p
air_bare p on = ap (λ (b : Bool). cond b (coded_length p) (p.rows * p.columns)) on

pub air_line : (p : PlanNumbers) → on_bare p ≡ false → air_length p ≡ p.rows * p.columns
air_line p off = ap (λ (b : Bool). cond b (coded_length p) (p.rows * p.columns)) off

pub steps_bare : (p : PlanNumbers) → on_bare p ≡ true → step_count p ≡ 0
steps_bare p on = ap (λ (b : Bool). cond b 0 (8 * coded_length p + 6)) on

-- the front of a list that was filled there
pub front_is : {A : Type 0} (n : ℕ) (xs rest ys : List A) → length xs ≡ n → xs ≡ ys → take (n - 0) (xs ++ rest) ≡ ys
front_is n xs rest ys long is = ap (λ (k : ℕ). take k (xs ++ rest)) (sub-zero n ∙ sym long) ∙ take-append_seam xs rest ∙ is

-- an entry read from readings that are known
pub read_known : {R : Type 0} (n : ℕ) (got : List R → Result Received CarrierFault) (rs rs' : List R) (a b t : List ℕ) (r : Result Corrections EntryFault) (m' a' b' t' : List ℕ) → rs ≡ rs' → ReadEntry (read n (got rs)) a b t r m' a' b' t' → ReadEntry (read n (got rs')) a b t r m' a' b' t'
read_known n got rs rs' a b t r m' a' b' t' e k = subst (λ x. ReadEntry (read n (got x)) a b t r m' a' b' t') e k

-- marks that are all right, and a byte that is none
pub marks-read : (p : PlanNumbers) (unit : ℕ) (bs a b t : List ℕ) (o : Option ℕ) (r : Result Corrections EntryFault) (m' a' b' t' : List ℕ) → o ≡ None
    → ReadEntry (read (body_length p) ((line_plan hard_cost clean_hard p unit).got (map mark_of bs))) a b t r m' a' b' t' → ReadEntry (read_marks p unit bs o) a b t r m' a' b' t'
marks-read p unit bs a b t o r m' a' b' t' e k = subst (λ x. ReadEntry (read_marks p unit bs x) a b t r m' a' b' t') (sym e) k

pub marks-refused : (p : PlanNumbers) (unit : ℕ) (bs a b t : List ℕ) (w : EntryFault) (m : List ℕ) → FirstOver bs w → m ≡ zeros (body_length p) → a ≡ zeros (length a) → b ≡ zeros (length b) → t ≡ zeros (length t)
    → ReadEntry (read_marks p unit bs (first_over 0 bs)) a b t (Err w) m a b t
marks-refused p unit bs a b t (Mark i) m e part first second steps =
    subst (λ x. ReadEntry (read_marks p unit bs x) a b t (Err (Mark i)) m a b t) (sym e)
    (record { answer = refl; part = part; first = first; second = second; steps = steps })
marks-refused p unit bs a b t (Coding f) m e part first second steps = absurd e
