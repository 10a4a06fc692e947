-- Each thing that can be wrong with an entry, and an entry with which nothing is.
use Rattle.std.proofs.Common.{◌≡◌, ℕ, zero, suc, ◌+◌, ◌<◌, ◌≤◌, Bool, true, false, cond, eqb, ◌⊎◌, List, length, Some, None, Ok, Err, Option, Result, MatchResult, refl, ap, ◌∙◌, inl, inr, add-one, arith, eq-eqb, ne_eqb}
use Rattle.std.proofs.lemmas.Bool.{cases_lt}
use Rattle.std.specs.Option.{ok_or}
use Rattle.std.specs.Result.{is_ok}
use Rattle.plan.specs.Listed.{listed}
use Rattle.plan.specs.Stacks.{Layout}
use Rattle.book.specs.declared.contents.Kind.{Kind}
use Rattle.book.specs.declared.contents.EntryLine.{EntryLine}
use Rattle.book.specs.declared.contents.UnknownKind.{UnknownKind}
use Rattle.book.specs.declared.fault.BookFault.{BookFault}
use Rattle.book.specs.declared.job.Job.{Job}
use Rattle.book.specs.declared.fault.BookFault.TheVariants.{Start, Unlisted, Kind as OfKind, Length}
use Rattle.book.specs.Contents.{KindOf, kind_of, line_at, count, contents_end}
use Rattle.book.specs.Jobs.{JobOf}
use Rattle.book.specs.Judging.{allowed, asked, by_kind, by_plan, entry_wrong, start_at, or_else, entries_wrong, parts_wrong, kind_needs, no_needs, and_needs, needs_by, entry_needs, needs_before}

module _ (e s : ℕ) (l : EntryLine) where
  pub wrong_start : (l.start ≡ s → ⊥) → entry_wrong e s l ≡ Some (Start e)
  unfolding entry_wrong
  wrong_start h = ap (λ (b : Bool). cond b (by_plan e l (listed l.plan)) (Some (Start e))) (ne_eqb l.start s h)

  on_time : l.start ≡ s → entry_wrong e s l ≡ by_plan e l (listed l.plan)
  unfolding entry_wrong
  on_time h = ap (λ (b : Bool). cond b (by_plan e l (listed l.plan)) (Some (Start e))) (eq-eqb l.start s h)

  pub wrong_plan : l.start ≡ s → listed l.plan ≡ None → entry_wrong e s l ≡ Some (Unlisted e)
  wrong_plan h p = on_time h ∙ ap (λ (o : Option Layout). by_plan e l o) p

  planned : (p : Layout) → l.start ≡ s → listed l.plan ≡ Some p → entry_wrong e s l ≡ by_kind e l.length p.numbers (kind_of l.kind)
  planned p h is = on_time h ∙ ap (λ (o : Option Layout). by_plan e l o) is

  pub wrong_kind : (p : Layout) → l.start ≡ s → listed l.plan ≡ Some p → kind_of l.kind ≡ None → entry_wrong e s l ≡ Some (OfKind e)
  wrong_kind p h is k = planned p h is ∙ ap (λ (o : Option Kind). by_kind e l.length p.numbers o) k

  of_kind : (p : Layout) (k : Kind) → l.start ≡ s → listed l.plan ≡ Some p → kind_of l.kind ≡ Some k
      → entry_wrong e s l ≡ cond (allowed k p.numbers) (cond (eqb l.length (asked k p.numbers)) None (Some (Length e))) (Some (OfKind e))
  of_kind p k h is known = planned p h is ∙ ap (λ (o : Option Kind). by_kind e l.length p.numbers o) known

  pub wrong_carrier : (p : Layout) (k : Kind) → l.start ≡ s → listed l.plan ≡ Some p → kind_of l.kind ≡ Some k → allowed k p.numbers ≡ false → entry_wrong e s l ≡ Some (OfKind e)
  wrong_carrier p k h is known a =
      of_kind p k h is known ∙ ap (λ (b : Bool). cond b (cond (eqb l.length (asked k p.numbers)) None (Some (Length e))) (Some (OfKind e))) a

  right_carrier : (p : Layout) (k : Kind) → l.start ≡ s → listed l.plan ≡ Some p → kind_of l.kind ≡ Some k → allowed k p.numbers ≡ true → entry_wrong e s l ≡ cond (eqb l.length (asked k p.numbers)) None (Some (Length e))
  right_carrier p k h is known a =
      of_kind p k h is known ∙ ap (λ (b : Bool). cond b (cond (eqb l.length (asked k p.numbers)) None (Some (Length e))) (Some (OfKind e))) a

  pub wrong-length : (p : Layout) (k : Kind) → l.start ≡ s → listed l.plan ≡ Some p → kind_of l.kind ≡ Some k → allowed k p.numbers ≡ true → (l.length ≡ asked k p.numbers → ⊥) → entry_wrong e s l ≡ Some (Length e)
  wrong-length p k h is known a n =
      right_carrier p k h is known a ∙ ap (λ (b : Bool). cond b None (Some (Length e))) (ne_eqb l.length (asked k p.numbers) n)

  pub right_entry : (p : Layout) (k : Kind) → l.start ≡ s → listed l.plan ≡ Some p → kind_of l.kind ≡ Some k → allowed k p.numbers ≡ true → l.length ≡ asked k p.numbers → entry_wrong e s l ≡ None
  right_entry p k h is known a n =
      right_carrier p k h is known a ∙ ap (λ (b : Bool). cond b None (Some (Length e))) (eq-eqb l.length (asked k p.numbers) n)

-- the fault that is told where nothing is
pub missing : {A E : Type 0} (o : Option A) (w v : E) → ◌≡◌ {A = Result A E} (Err v) (ok_or o w) → o ≡ None → w ≡ v
missing None w v h n = let z : w ≡ v = cc in z
missing (Some p) w v h n = absurd (let z : ◌≡◌ {A = ℕ} 0 1 = cc in omega arith)

-- a number of a kind, and one that no kind has, told by a fault
pub a_kind : (P : UnknownKind → Type 0) (n : ℕ) (r : Result Kind UnknownKind) (k : Kind) → KindOf n r → MatchResult r (λ x. ◌≡◌ {A = Result Kind BookFault} (Ok k) (Ok x)) P → true ≡ is_ok r → kind_of n ≡ Some k
a_kind P n (Ok x) k h e is = h ∙ ap Some (let z : x ≡ k = cc in z)
a_kind P n (Err u) k h e is = absurd (let z : ◌≡◌ {A = ℕ} 0 1 = cc in omega arith)

pub no_kind : (P : UnknownKind → Type 0) (n : ℕ) (r : Result Kind UnknownKind) (w : BookFault) → KindOf n r → MatchResult r (λ x. ◌≡◌ {A = Result Kind BookFault} (Err w) (Ok x)) P → (u : UnknownKind) × ((kind_of n ≡ None) × P u)
no_kind P n (Ok x) w h e = absurd (let z : ◌≡◌ {A = ℕ} 0 1 = cc in omega arith)
no_kind P n (Err u) w h e = (u, (h.1, e))

-- one entry more
pub entries_more : (f : List ℕ) (e : ℕ) → entries_wrong f e ≡ None → entries_wrong f (e + 1) ≡ entry_wrong (e + 1) (start_at f e) (line_at f e)
unfolding entries_wrong
entries_more f e h =
    ap (entries_wrong f) (add-one e) ∙ ap (λ (o : Option BookFault). or_else o (entry_wrong (e + 1) (start_at f e) (line_at f e))) h

pub start_more : (f : List ℕ) (e : ℕ) → start_at f (e + 1) ≡ start_at f e + (line_at f e).length
unfolding start_at
start_more f e = ap (start_at f) (add-one e)

pub needs_more : (f : List ℕ) (e : ℕ) → needs_before f (e + 1) ≡ and_needs (needs_before f e) (entry_needs (line_at f e))
unfolding needs_before
needs_more f e = ap (needs_before f) (add-one e)

-- what an entry needs is what its job needs
pub job_needs : (l : EntryLine) (j : Job) → JobOf l j → entry_needs l ≡ kind_needs j.kind j.plan.numbers
unfolding entry_needs
job_needs l j h = ap (λ (o : Option Layout). needs_by o (kind_of l.kind)) h.plan ∙ ap (λ (o : Option Kind). needs_by (Some (record { numbers = j.plan.numbers; unit = j.plan.unit })) o) h.kind

-- the first fault of an entry is that of every longer list of entries
pub stays_wrong : (f : List ℕ) (e n : ℕ) (w : BookFault) → entries_wrong f (e + 1) ≡ Some w → e < n → entries_wrong f n ≡ Some w
unfolding entries_wrong
stays_wrong f e zero w h k = absurd (omega arith)
stays_wrong f e (suc n) w h k = go (stays_wrong f e n w h) (cases_lt e n)
  where
    go : (e < n → entries_wrong f n ≡ Some w) → (e < n) ⊎ (n ≤ e) → entries_wrong f (suc n) ≡ Some w
    go rest (inl lt) = ap (λ (o : Option BookFault). or_else o (entry_wrong (n + 1) (start_at f n) (line_at f n))) (rest lt)
    go rest (inr ge) = let same : suc n ≡ e + 1 = omega arith in ap (entries_wrong f) same ∙ h

-- what is wrong with the parts: an entry, or the last end, or nothing
pub parts_by_entry : (f : List ℕ) (w : BookFault) → entries_wrong f (count f) ≡ Some w → parts_wrong f ≡ Some w
parts_by_entry f w h = ap (λ (o : Option BookFault). or_else o (cond (eqb (start_at f (count f)) (length f)) None (Some (Start (count f))))) h

parts_by_end : (f : List ℕ) → entries_wrong f (count f) ≡ None → parts_wrong f ≡ cond (eqb (start_at f (count f)) (length f)) None (Some (Start (count f)))
parts_by_end f h = ap (λ (o : Option BookFault). or_else o (cond (eqb (start_at f (count f)) (length f)) None (Some (Start (count f))))) h

pub parts_end_wrong : (f : List ℕ) → entries_wrong f (count f) ≡ None → (start_at f (count f) ≡ length f → ⊥) → parts_wrong f ≡ Some (Start (count f))
parts_end_wrong f h n = parts_by_end f h ∙ ap (λ (b : Bool). cond b None (Some (Start (count f)))) (ne_eqb _ _ n)

pub parts_right : (f : List ℕ) → entries_wrong f (count f) ≡ None → start_at f (count f) ≡ length f → parts_wrong f ≡ None
parts_right f h e = parts_by_end f h ∙ ap (λ (b : Bool). cond b None (Some (Start (count f)))) (eq-eqb _ _ e)

-- before the first entry
pub none_yet : (f : List ℕ) → (entries_wrong f 0 ≡ None) × (contents_end f ≡ start_at f 0) × (no_needs ≡ needs_before f 0)
unfolding entries_wrong start_at needs_before
none_yet f = (refl, refl, refl)
