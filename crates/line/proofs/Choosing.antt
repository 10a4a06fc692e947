-- Steps that were run, the body that was traced back, and what `receive` leaves with it.
use Rattle.std.proofs.Common.{◌≡◌, ℕ, ◌+◌, ◌-◌, ◌*◌, ◌<◌, ◌≤◌, List, ◌++◌, length, get_or, take, drop, Ok, sym, ap, ◌∙◌, subst, inl, inr, arith}
use Rattle.std.proofs.lemmas.List.{get_or_append_left, get_or_past, length-drop, length-take-le}
use Rattle.std.proofs.lemmas.Bool.{cases_lt}
use Rattle.convolution.specs.declared.rate.Rate.{Rate}
use Rattle.convolution.specs.declared.costs.StepCosts.{StepCosts}
use Rattle.convolution.specs.Code.{all_bits, marks}
use Rattle.convolution.specs.Cost.{least, step_cost}
use Rattle.convolution.specs.Trellis.{Tracks, Chose}
use Rattle.convolution.specs.Slots.{Priced, Ran}
use Rattle.stack.specs.Buffers.{Bytes, zeros, padded}
use Rattle.stack.specs.Calls.{Got}
use Rattle.stack.specs.Bodies.{write_zeros}
use Rattle.line.specs.Line.{bytes_of, dear, chosen, Chosen, Went}
use Rattle.line.specs.Octets.{bytes_of_all}
use Rattle.line.proofs.Stepping.{each_run}

pub went_from_ran : {rate r : Rate} {price : ℕ → ℕ → ℕ} {cs : List StepCosts} {n t : ℕ} {ms next ds : List ℕ} → r ≡ rate → length cs ≡ t → Priced rate price n cs → Ran r cs (length cs) ms next ds → Went rate price n t ms next ds
went_from_ran {rate} {r} {price} {cs} {n} {t} {ms} {next} {ds} e l p h =
    let k : Ran rate cs t ms next ds = subst (λ i. Ran rate cs i ms next ds) l (subst (λ s. Ran s cs (length cs) ms next ds) e h) in
    record { tracks = k.tracks price n p; chose = k.chose price n p }

-- k decisions from n on
pub run_long : (n k : ℕ) (ds : List ℕ) → n + k ≤ length ds → length (take (n + k - n) (drop n ds)) ≡ k
run_long n k ds h = length-take-le (n + k - n) (drop n ds) (omega (arith, length-drop n ds)) ∙ omega arith

-- k steps more are right, and so are all so far
pub went_more : {rate : Rate} {price : ℕ → ℕ → ℕ} {ms next run : List ℕ} (n t k : ℕ) (ds rest : List ℕ) → Went rate price n t ms next run → t ≡ k → n ≤ length ds → length run ≡ k → Tracks (step_cost rate price) n ms
    → ((j : ℕ) → j < n → Chose (step_cost rate price) j (get_or ds j 0)) → Tracks (step_cost rate price) (n + k) next × ((j : ℕ) → j < n + k → Chose (step_cost rate price) j (get_or (take n ds ++ (run ++ rest)) j 0))
went_more {rate} {price} {next = next} {run = run} n t k ds rest w same h l tracks chose = (
  subst (λ i. Tracks (step_cost rate price) (n + i) next) same (w.tracks tracks),
  each_run (Chose (step_cost rate price)) ds run rest n k h l chose (λ j m. w.chose tracks j (omega arith)),
)

pub chosen-from-least : (rate : Rate) (price : ℕ → ℕ → ℕ) (m : ℕ) (x : List ℕ) (n : ℕ) → length x ≡ m → all_bits x ≡ least rate price (8 * length x) → n ≡ dear price 0 (marks rate (all_bits x)) → Chosen rate price m x n
chosen-from-least rate price m x n l e c =
    let is : all_bits x ≡ least rate price (8 * m) = e ∙ ap (λ k. least rate price (8 * k)) l in
    record { word = is; symbols = c ∙ ap (λ w. dear price 0 (marks rate w)) is }

front_bytes : (x rest : List ℕ) → Bytes (x ++ rest) → Bytes x
front_bytes x rest h k = elim (cases_lt k (length x)) [
  | inl l ↦ omega (arith, h k, get_or_append_left x rest 0 k l)
  | inr l ↦ omega (arith, get_or_past x k 0 l)
]

pub got_chosen : (rate : Rate) (price : ℕ → ℕ → ℕ) (m k : ℕ) {a b t x c s u : List ℕ} {n : ℕ} → k ≡ m → Chosen rate price k x n → length x ≡ k → Bytes (x ++ drop k c) → c ≡ zeros (length a) → s ≡ zeros (length b)
    → u ≡ zeros (length t) → Got (Ok (chosen rate m price)) a b t (Ok (record { symbols = n; bytes = 0 })) (x ++ drop k c) s u
unfolding chosen
got_chosen rate price m k {a} {x = x} {c = c} {n = n} same h l small e f g =
    let body : x ≡ bytes_of m (least rate price (8 * m)) =
    sym (bytes_of_all m x (l ∙ same) (front_bytes x (drop k c) small)) ∙ ap (bytes_of m) (h.word ∙ ap (λ j. least rate price (8 * j)) same) in
    record {
      answer = ap (λ v. Ok (record { symbols = v; bytes = 0 })) (h.symbols ∙ ap (λ j. dear price 0 (marks rate (least rate price (8 * j)))) same);
      held = record { first = write_zeros (length a) k x c e l ∙ ap (padded (length a)) body; second = f; steps = g };
    }
