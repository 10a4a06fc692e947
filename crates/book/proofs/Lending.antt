-- What was lent is enough, or the book is refused for it.
use Rattle.std.proofs.Common.{◌≡◌, ℕ, ◌≤◌, Bool, true, false, cond, eqb, leb, List, length, ℤ, Some, None, Ok, Err, Option, Result, sym, refl, ap, ◌∙◌, subst, arith, MatchOption}
use Rattle.std.proofs.lemmas.Bool.{and_parts, eqb-true, leb-true}
use Rattle.stack.specs.Buffers.{padded}
use Rattle.book.specs.declared.entry.Entry.{Entry}
use Rattle.book.specs.declared.fault.BookFault.{BookFault}
use Rattle.book.specs.Running.{BookRun, Idle, Left, Ran, Recorded, results_before}
use Rattle.book.specs.declared.fault.BookFault.TheVariants.{Buffers}
use Rattle.book.specs.declared.job.Needs.{Needs}
use Rattle.book.specs.Contents.{count}
use Rattle.book.specs.Judging.{Enough, book_wrong, file_wrong, lent_enough, needs_before, or_else}

pub lent_parts : (n : Needs) (entries first second steps hard soft results records : ℕ) → lent_enough n entries first second steps hard soft results records ≡ true → Enough n first second steps hard soft × (n.results ≤ results) × (entries ≤ records)
lent_parts n entries first second steps hard soft results records h =
    let a = and_parts _ (leb entries records) h in
    let b = and_parts _ (leb n.results results) a.0 in
    let c = and_parts _ (leb n.soft soft) b.0 in
    let d = and_parts _ (leb n.hard hard) c.0 in
    let e = and_parts _ (leb n.steps steps) d.0 in
    let g = and_parts (eqb first second) (leb n.bytes first) e.0 in (
      record {
        equal = sym (eqb-true first second g.0);
        bytes = leb-true n.bytes first g.1;
        step = leb-true n.steps steps e.1;
        marks = leb-true n.hard hard d.1;
        readings = leb-true n.soft soft c.1;
      },
      leb-true n.results results b.1,
      leb-true entries records a.1,
    )

module _ (f : List ℕ) (first second steps hard soft results records : ℕ) where
  pub wrong_file : (w : BookFault) → file_wrong f ≡ Some w → book_wrong f first second steps hard soft results records ≡ Some w
  wrong_file w h = ap (λ (o : Option BookFault). or_else o (cond (lent_enough (needs_before f (count f)) (count f) first second steps hard soft results records) None (Some Buffers))) h

  by_lent : file_wrong f ≡ None → book_wrong f first second steps hard soft results records ≡ cond (lent_enough (needs_before f (count f)) (count f) first second steps hard soft results records) None (Some Buffers)
  by_lent h = ap (λ (o : Option BookFault). or_else o (cond (lent_enough (needs_before f (count f)) (count f) first second steps hard soft results records) None (Some Buffers))) h

  pub wrong_lent : (n : Needs) (entries : ℕ) → n ≡ needs_before f (count f) → entries ≡ count f → file_wrong f ≡ None → lent_enough n entries first second steps hard soft results records ≡ false → book_wrong f first second steps hard soft results records ≡ Some Buffers
  wrong_lent n entries e k h b =
      by_lent h ∙ (λ i. cond (lent_enough (sym e i) (sym k i) first second steps hard soft results records) None (Some Buffers)) ∙ ap (λ (x : Bool). cond x None (Some Buffers)) b

  pub right_book : (n : Needs) (entries : ℕ) → n ≡ needs_before f (count f) → entries ≡ count f → file_wrong f ≡ None → lent_enough n entries first second steps hard soft results records ≡ true → book_wrong f first second steps hard soft results records ≡ None
  right_book n entries e k h b =
      by_lent h ∙ (λ i. cond (lent_enough (sym e i) (sym k i) first second steps hard soft results records) None (Some Buffers)) ∙ ap (λ (x : Bool). cond x None (Some Buffers)) b

-- a book that is refused, and one that is run
module _ (f : List ℕ) (records : List Entry) (results first second steps : List ℕ) (hard : List (Option Bool)) (soft : List ℤ) where
  pub book_refused : (w : BookFault) (r : Result ℕ BookFault) → r ≡ Err w → book_wrong f (length first) (length second) (length steps) (length hard) (length soft) (length results) (length records) ≡ Some w
      → BookRun f records results first second steps hard soft r records results first second steps hard soft
  book_refused w r is e =
      subst (λ (o : Option BookFault). MatchOption o (Ran f records results r records results first second steps hard soft) (λ x. Left x records results first second steps hard soft r records results first second steps hard soft)) (sym e)
      (record { answer = is; records_as_found = refl; results_as_found = refl; first_as_found = refl; second_as_found = refl; steps_as_found = refl; hard_as_found = refl; soft_as_found = refl })

  pub book_run : (n : ℕ) (records' : List Entry) (results' first' second' steps' : List ℕ) (hard' : List (Option Bool)) (soft' : List ℤ) → book_wrong f (length first) (length second) (length steps) (length hard) (length soft) (length results) (length records) ≡ None
      → n ≡ count f → Recorded f (count f) records records' → results' ≡ padded (length results) (results_before f (count f)) → Idle first' second' steps' hard' soft' → BookRun f records results first second steps hard soft (Ok n) records' results' first' second' steps' hard' soft'
  book_run n records' results' first' second' steps' hard' soft' e is done held idle =
      subst (λ (o : Option BookFault). MatchOption o (Ran f records results (Ok n) records' results' first' second' steps' hard' soft') (λ x. Left x records results first second steps hard soft (Ok n) records' results' first' second' steps' hard' soft')) (sym e)
      (record { answer = ap (λ (k : ℕ). Ok k) is; recorded = done; held = held; idle = idle })

-- buffers that are as long as others are enough for the same needs
pub enough_kept : (n n' : Needs) (a b t h s a' b' t' h' s' : ℕ) → n ≡ n' → a' ≡ a → b' ≡ b → t' ≡ t → h' ≡ h → s' ≡ s → Enough n a b t h s → Enough n' a' b' t' h' s'
enough_kept n n' a b t h s a' b' t' h' s' e fa fb ft fh fs k = record {
  equal = fb ∙ k.equal ∙ sym fa;
  bytes = omega (arith, ap (λ (x : Needs). x.bytes) e, k.bytes);
  step = omega (arith, ap (λ (x : Needs). x.steps) e, k.step);
  marks = omega (arith, ap (λ (x : Needs). x.hard) e, k.marks);
  readings = omega (arith, ap (λ (x : Needs). x.soft) e, k.readings);
}
