-- The entries of an accepted book: where they lie, and that the buffers are enough for each.
use Rattle.std.proofs.Common.{◌≡◌, ℕ, zero, suc, ◌+◌, ◌-◌, ◌*◌, ◌<◌, ◌≤◌, leb, ◌⊎◌, List, ◌++◌, length, take, drop, replicate, Some, None, Option, Result, sym, refl, ap, ◌∙◌, subst, inl, inr, append_assoc, add-one, arith, length-append}
use Rattle.std.proofs.Math.Nat.{add-sub_cancel_left}
use Rattle.std.proofs.lemmas.List.{drop_at, take_at, take-replicate, drop-replicate}
use Rattle.std.proofs.lemmas.Bool.{and_parts, leb-true, cases_lt}
use Rattle.stack.specs.Buffers.{zeros, padded}
use Rattle.book.specs.Contents.{count, kind_of, line_at}
use Rattle.plan.specs.Stacks.{Layout}
use Rattle.stack.specs.declared.corrections.Corrections.{Corrections}
use Rattle.book.specs.declared.contents.EntryLine.{EntryLine}
use Rattle.book.specs.declared.contents.Kind.{Kind}
use Rattle.book.specs.declared.contents.Kind.TheVariants.{Body, Block, Soft, Samples}
use Rattle.limits.specs.declared.numbers.PlanNumbers.{PlanNumbers}
use Rattle.book.specs.declared.fault.EntryFault.{EntryFault}
use Rattle.book.specs.declared.job.Job.{Job}
use Rattle.book.specs.declared.job.Needs.{Needs}
use Rattle.book.specs.Jobs.{JobOf}
use Rattle.book.specs.Running.{Reached, entry_bytes, entry_outcome, outcome, outcome_by, record_at, results_before}
use Rattle.book.specs.Judging.{Enough, kind_needs, result_length, entry_needs, entry_wrong, file_wrong, needs_before, start_at}
use Rattle.book.proofs.Covering.{passed, each_right}
use Rattle.book.proofs.Judged.{start_more, needs_more, job_needs}

-- the lines of the entries lie in the file
pub line_inside : (f : List ℕ) (e : ℕ) → file_wrong f ≡ None → e < count f → (2 + 6 * e + 6 ≤ length f) × (e < 32)
line_inside f e right h =
    let p = passed f right in
    let few = leb-true (count f) 32 (and_parts (leb 1 (count f)) (leb (count f) 32) p.few).1 in
    (omega (arith, p.contents), omega (arith, few))

-- nothing is wrong with an entry
pub entry_right : (f : List ℕ) (e : ℕ) → file_wrong f ≡ None → e < count f → entry_wrong (e + 1) (start_at f e) (line_at f e) ≡ None
entry_right f e right h = each_right f (count f) e (passed f right).entries h

-- an entry ends where a later one starts, or before
ends_before : (f : List ℕ) (e n : ℕ) → e < n → start_at f e + (line_at f e).length ≤ start_at f n
unfolding start_at
ends_before f e zero h = absurd (omega arith)
ends_before f e (suc n) h = go (ends_before f e n) (cases_lt e n)
  where
    go : (e < n → start_at f e + (line_at f e).length ≤ start_at f n) → (e < n) ⊎ (n ≤ e) → start_at f e + (line_at f e).length ≤ start_at f n + (line_at f n).length
    go rest (inl lt) = omega (arith, rest lt)
    go rest (inr ge) =
        let same : e ≡ n = omega arith in
        subst (λ (i : ℕ). start_at f e + (line_at f e).length ≤ start_at f i + (line_at f i).length) same (omega arith)

pub ends_inside : (f : List ℕ) (e : ℕ) → file_wrong f ≡ None → e < count f → start_at f e + (line_at f e).length ≤ length f
ends_inside f e right h = omega (arith, ends_before f e (count f) h, (passed f right).end)

-- buffers that are enough for all entries are enough for each
pub enough_for : (f : List ℕ) (e n first second steps hard soft : ℕ) → e < n → Enough (needs_before f n) first second steps hard soft → Enough (entry_needs (line_at f e)) first second steps hard soft
unfolding needs_before
enough_for f e zero first second steps hard soft h k = absurd (omega arith)
enough_for f e (suc n) first second steps hard soft h k = go (enough_for f e n first second steps hard soft) (cases_lt e n)
  where
    go : (e < n → Enough (needs_before f n) first second steps hard soft → Enough (entry_needs (line_at f e)) first second steps hard soft) → (e < n) ⊎ (n ≤ e) → Enough (entry_needs (line_at f e)) first second steps hard soft
    go rest (inl lt) = rest lt (record { equal = k.equal; bytes = omega (arith, k.bytes); step = omega (arith, k.step); marks = omega (arith, k.marks); readings = omega (arith, k.readings) })
    go rest (inr ge) =
        let same : n ≡ e = omega arith in
        subst (λ (i : ℕ). Enough (entry_needs (line_at f i)) first second steps hard soft) same
        (record { equal = k.equal; bytes = omega (arith, k.bytes); step = omega (arith, k.step); marks = omega (arith, k.marks); readings = omega (arith, k.readings) })

-- the results of the first entries lie before the end of all
pub results_fit : (f : List ℕ) (e n : ℕ) → e < n → (needs_before f e).results + (entry_needs (line_at f e)).results ≤ (needs_before f n).results
unfolding needs_before
results_fit f e zero h = absurd (omega arith)
results_fit f e (suc n) h = go (results_fit f e n) (cases_lt e n)
  where
    go : (e < n → (needs_before f e).results + (entry_needs (line_at f e)).results ≤ (needs_before f n).results) → (e < n) ⊎ (n ≤ e) → (needs_before f e).results + (entry_needs (line_at f e)).results ≤ (needs_before f n).results + (entry_needs (line_at f n)).results
    go rest (inl lt) = omega (arith, rest lt)
    go rest (inr ge) =
        let same : e ≡ n = omega arith in
        subst (λ (i : ℕ). (needs_before f e).results + (entry_needs (line_at f e)).results ≤ (needs_before f i).results + (entry_needs (line_at f i)).results) same (omega arith)

-- what becomes of an entry is what its job gives for its bytes
pub job_outcome : (f : List ℕ) (e : ℕ) (j : Job) → JobOf (line_at f e) j → entry_outcome f e ≡ outcome j.kind j.plan.numbers j.plan.unit (entry_bytes f (line_at f e))
unfolding entry_outcome
job_outcome f e j h =
    ap (λ (o : Option Layout). outcome_by o (kind_of (line_at f e).kind) (entry_bytes f (line_at f e))) h.plan
    ∙ ap (λ (o : Option Kind). outcome_by (Some (record { numbers = j.plan.numbers; unit = j.plan.unit })) o (entry_bytes f (line_at f e))) h.kind

-- the bytes of an entry as a part of the file
pub bytes_are : (f : List ℕ) (l : EntryLine) (start n : ℕ) → start ≡ l.start → n ≡ l.length → take (start + n - start) (drop start f) ≡ entry_bytes f l
bytes_are f l start n s e = ap (λ (k : ℕ). take k (drop start f)) (add-sub_cancel_left start n) ∙ (λ i. take (e i) (drop (s i) f))

-- a part of the results that nothing was written to yet
module _ (n place size : ℕ) (xs r : List ℕ) (held : r ≡ padded n xs) (long : length xs ≡ place) where
  behind : drop place r ≡ zeros (n - place)
  behind = ap (drop place) held ∙ drop_at xs (replicate (n - length xs) 0) place long ∙ ap (λ (k : ℕ). zeros (n - k)) long

  pub part_empty : place + size ≤ n → take (place + size - place) (drop place r) ≡ zeros size
  part_empty h =
      ap (λ (k : ℕ). take k (drop place r)) (add-sub_cancel_left place size) ∙ ap (take size) behind ∙ take-replicate size (n - place) 0 (omega arith)

  -- and the results once it is written
  pub part_written : (ys : List ℕ) → length ys ≡ size → take place r ++ (ys ++ drop (place + size - place) (drop place r)) ≡ padded n (xs ++ ys)
  part_written ys e =
      let front : take place r ≡ xs = ap (take place) held ∙ take_at xs (replicate (n - length xs) 0) place long in
      let rest : drop (place + size - place) (drop place r) ≡ zeros (n - length (xs ++ ys))
      = ap (λ (k : ℕ). drop k (drop place r)) (add-sub_cancel_left place size) ∙ ap (drop size) behind ∙ drop-replicate size (n - place) 0
      ∙ ap zeros (let l : n - place - size ≡ n - length (xs ++ ys) = omega (arith, length-append xs ys) in l) in
      (λ i. front i ++ (ys ++ rest i)) ∙ sym (append_assoc xs ys (zeros (n - length (xs ++ ys))))

-- the record of an entry
pub recorded : (f : List ℕ) (e place size : ℕ) (line : EntryLine) (answer : Result Corrections EntryFault) → line ≡ line_at f e
    → place ≡ (needs_before f e).results → length (entry_outcome f e).result ≡ size → answer ≡ (entry_outcome f e).answer → record { line = line; place = place; size = size; answer = answer } ≡ record_at f e
unfolding record_at
recorded f e place size line answer same here big is = λ i. record { line = same i; place = here i; size = sym big i; answer = is i }

-- one entry more is run
pub reached_more : (f : List ℕ) (e start place size : ℕ) (r r' ys : List ℕ) (line : EntryLine) → Reached f e start place r → line ≡ line_at f e → (entry_needs (line_at f e)).results ≡ size → ys ≡ (entry_outcome f e).result → length ys ≡ size
    → length r' ≡ length r → r' ≡ padded (length r) (results_before f e ++ ys) → Reached f (e + 1) (start + line.length) (place + size) r'
unfolding results_before
reached_more f e start place size r r' ys line h l need is long same put =
    let more : results_before f (e + 1) ≡ results_before f e ++ ys = ap (results_before f) (add-one e) ∙ ap (λ (x : List ℕ). results_before f e ++ x) (sym is) in
    record {
      start_is = (λ i. h.start_is i + (l i).length) ∙ sym (start_more f e);
      place_is = (λ i. h.place_is i + sym need i) ∙ sym (ap (λ (x : Needs). x.results) (needs_more f e));
      long = ap length more ∙ length-append (results_before f e) ys ∙ (λ i. h.long i + long i);
      held = put ∙ (λ i. padded (sym same i) (sym more i));
    }

-- an accepted file is small
pub file_small : (f : List ℕ) → file_wrong f ≡ None → length f ≤ 60000
file_small f right = leb-true (length f) 60000 (and_parts (leb 2 (length f)) (leb (length f) 60000) (passed f right).size).1

-- the results that an entry needs are those of its job
pub size_needs : (k : Kind) (p : PlanNumbers) → result_length k p ≡ (kind_needs k p).results
size_needs Body p = refl
size_needs Block p = refl
size_needs Soft p = refl
size_needs Samples p = refl

pub size_is : (f : List ℕ) (e size : ℕ) (j : Job) → JobOf (line_at f e) j → size ≡ result_length j.kind j.plan.numbers → size ≡ (entry_needs (line_at f e)).results
size_is f e size j h s = s ∙ size_needs j.kind j.plan.numbers ∙ sym (ap (λ (n : Needs). n.results) (job_needs (line_at f e) j h))
