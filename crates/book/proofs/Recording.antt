-- The records, and what is reached, before the first entry and after each.
use Rattle.std.proofs.Common.{◌≡◌, ℕ, ◌+◌, ◌-◌, ◌*◌, ◌<◌, ◌≤◌, ◌≢◌, ◌⊎◌, List, ◌++◌, length, get_or, take, drop, set, sym, refl, ap, ◌∙◌, inl, inr, arith, length-append, length-set, get_or-set_other, get_or-set_same}
use Rattle.std.proofs.Math.Nat.{sub-zero}
use Rattle.std.proofs.lemmas.Bool.{cases_lt}
use Rattle.std.proofs.lemmas.List.{length-drop, length-take-le, get_or-drop, get_or_append_left, get_or-append_right}
use Rattle.stack.specs.Buffers.{zeros}
use Rattle.book.specs.declared.entry.Entry.{Entry}
use Rattle.book.specs.Contents.{count}
use Rattle.book.specs.Judging.{needs_before, start_at}
use Rattle.book.specs.Running.{Reached, Recorded, record_at, results_before}

-- nothing is run yet
pub none_reached : (f r : List ℕ) (n : ℕ) → n ≡ count f → r ≡ zeros (length r) → Reached f 0 (2 + 6 * n) 0 r
unfolding start_at needs_before results_before
none_reached f r n e z = record {
  start_is = ap (λ (k : ℕ). 2 + 6 * k) e;
  place_is = refl;
  long = refl;
  held = z ∙ ap zeros (sym (sub-zero (length r)));
}

pub none_recorded : (f : List ℕ) (rs : List Entry) → Recorded f 0 rs rs
none_recorded f rs = record { long = refl; done = λ e d h. absurd (omega arith); kept = λ e d h. refl }

-- one record more; the others stay
pub one_recorded : (f : List ℕ) (e : ℕ) (before rs : List Entry) (r : Entry) → e < length rs → r ≡ record_at f e → Recorded f e before rs → Recorded f (e + 1) before (set rs e r)
one_recorded f e before rs r h is k = record {
  long = length-set rs e r ∙ k.long;
  done = λ i d lt. at i d lt (cases_lt i e);
  kept = λ i d ge. let ne : i ≢ e = omega arith in let far : e + 1 ≤ i = ge in get_or-set_other rs e i r d ne ∙ k.kept i d (omega arith);
}
  where
    at : (i : ℕ) (d : Entry) → i < e + 1 → (i < e) ⊎ (e ≤ i) → get_or (set rs e r) i d ≡ record_at f i
    at i d lt (inl below) = let ne : i ≢ e = omega arith in get_or-set_other rs e i r d ne ∙ k.done i d below
    at i d lt (inr same) =
        let is-e : i ≡ e = omega arith in
        ap (λ (j : ℕ). get_or (set rs e r) j d) is-e ∙ get_or-set_same rs e r d h ∙ is ∙ ap (record_at f) (sym is-e)

-- the records of all entries, at the front of a list that may be longer
pub front_recorded : (f : List ℕ) (n k : ℕ) (before front : List Entry) → k ≡ n → n ≤ length before → Recorded f n (take k before) front → Recorded f n before (front ++ drop k before)
front_recorded f n k before front is h r =
    let long : length front ≡ k = r.long ∙ length-take-le k before (omega arith) in
    record {
      long = length-append front (drop k before) ∙ (let all : length front + length (drop k before) ≡ length before = omega (arith, long, length-drop k before) in all);
      done = λ e d lt. get_or_append_left front (drop k before) d e (omega arith) ∙ r.done e d lt;
      kept = λ e d ge. get_or-append_right front (drop k before) k e d long (omega arith) ∙ get_or-drop k before (e - k) d ∙ ap (λ (j : ℕ). get_or before j d) (let at : k + (e - k) ≡ e = omega arith in at);
    }
