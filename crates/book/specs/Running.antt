-- What becomes of the entries of a book, each by the meaning of its plan.
use Rattle.std.specs.Prelude.{◌≡◌, ℕ, zero, suc, ◌+◌, ◌*◌, ◌<◌, ◌≤◌, Bool, true, false, cond, ◌⊎◌, List, [], ◌∷◌, ◌++◌, map, length, take, drop, replicate, ℤ, pos, Some, None, Ok, Err, Option, Result, MatchOption, ◌==◌, nat_le, slice_index_or}
use Rattle.std.specs.Int.{w8, w16, cast_signed}
use Rattle.limits.specs.declared.numbers.PlanNumbers.{PlanNumbers}
use Rattle.plan.specs.Calls.{plan_sent}
use Rattle.limits.specs.Limits.{body_length}
use Rattle.plan.specs.Listed.{listed}
use Rattle.limits.specs.Limits.{on_bare}
use Rattle.plan.specs.Stacks.{Layout, bare_plan, line_plan}
use Rattle.readings.specs.Readings.{hard_cost, clean_hard, soft_cost, clean_soft}
use Rattle.readings.specs.Samples.{soft_of}
use Rattle.stack.specs.declared.corrections.Corrections.{Corrections}
use Rattle.stack.specs.declared.fault.CarrierFault.{CarrierFault}
use Rattle.stack.specs.Buffers.{zeros, padded}
use Rattle.stack.specs.Meaning.{Received}
use Rattle.book.specs.declared.contents.EntryLine.{EntryLine}
use Rattle.book.specs.declared.contents.Kind.{Kind}
use Rattle.book.specs.declared.contents.Kind.TheVariants.{Body, Block, Soft, Samples}
use Rattle.book.specs.declared.entry.Entry.{Entry}
use Rattle.book.specs.declared.fault.BookFault.{BookFault}
use Rattle.book.specs.declared.fault.EntryFault.{EntryFault}
use Rattle.book.specs.declared.fault.EntryFault.TheVariants.{Mark, Coding}
use Rattle.book.specs.Contents.{count, line_at, kind_of}
use Rattle.book.specs.Faults.{entry_report}
use Rattle.book.specs.Judging.{book_wrong, file_wrong, needs_before, start_at}

-- nothing corrected
abbrev pub none_corrected : Corrections
none_corrected = record { symbols = 0; bytes = 0 }

-- what became of an entry: its result, all zero where it is refused, and what was corrected or why it is refused
pub record Outcome : Type 0 where
  pub result : List ℕ
  pub answer : Result Corrections EntryFault

-- a block was written
abbrev pub wrote : List ℕ → Outcome
wrote y = record { result = y; answer = Ok none_corrected }

-- an entry that reads a body of n bytes was refused
abbrev pub refused : ℕ → EntryFault → Outcome
refused n w = record { result = zeros n; answer = Err w }

-- readings of a body of n bytes gave a body or a refusal
abbrev pub read : ℕ → Result Received CarrierFault → Outcome
read n (Ok g) = record { result = g.body; answer = Ok g.counts }
read n (Err f) = refused n (Coding f)

-- the marks of a block on the line: 0, 1, and 2 for absent
abbrev pub mark_of : ℕ → Option Bool
mark_of b = cond (b == 0) (Some false) (cond (b == 1) (Some true) None)

-- where the first byte over 2 stands, the first of these bytes at offset i
unfoldable pub first_over : ℕ → List ℕ → Option ℕ
first_over i [] = None
first_over i (b ∷ bs) = cond (nat_le b 2) (first_over (suc i) bs) (Some i)

-- marks are read unless a byte is none
abbrev pub read_marks : PlanNumbers → ℕ → List ℕ → Option ℕ → Outcome
read_marks p unit bs None = read (body_length p) ((line_plan hard_cost clean_hard p unit).got (map mark_of bs))
read_marks p unit bs (Some i) = refused (body_length p) (Mark i)

-- signed bytes, in two's complement
abbrev pub signed : ℕ → ℤ
signed b = cast_signed w8 b

-- samples of 16 bits, the high byte first; a byte left over is none
unfoldable pub samples : List ℕ → List ℤ
samples [] = []
samples (high ∷ []) = []
samples (high ∷ low ∷ bs) = cast_signed w16 (high * 256 + low) ∷ samples bs

-- soft readings are read
abbrev pub read_soft : PlanNumbers → ℕ → List ℤ → Outcome
read_soft p unit rs = read (body_length p) ((line_plan soft_cost clean_soft p unit).got rs)

-- what becomes of the bytes of an entry of a kind, by its plan
abbrev pub outcome : Kind → PlanNumbers → ℕ → List ℕ → Outcome
outcome Body p unit bs = wrote (plan_sent p unit bs)
outcome Block p unit bs = cond (on_bare p) (read (body_length p) ((bare_plan p unit).got bs)) (read_marks p unit bs (first_over 0 bs))
outcome Soft p unit bs = read_soft p unit (map signed bs)
outcome Samples p unit bs = read_soft p unit (map soft_of (samples bs))

-- an entry whose plan is listed and whose kind is known
abbrev pub outcome_by : Option Layout → Option Kind → List ℕ → Outcome
outcome_by None k bs = wrote []
outcome_by (Some l) None bs = wrote []
outcome_by (Some l) (Some k) bs = outcome k l.numbers l.unit bs

-- the bytes of an entry
abbrev pub entry_bytes : List ℕ → EntryLine → List ℕ
entry_bytes f l = take l.length (drop l.start f)

-- what becomes of entry e, from 0
unfoldable pub entry_outcome : List ℕ → ℕ → Outcome
entry_outcome f e = outcome_by (listed (line_at f e).plan) (kind_of (line_at f e).kind) (entry_bytes f (line_at f e))

-- the refusal that an answer holds, and its counts
abbrev pub refusal_of : Result Corrections EntryFault → Option EntryFault
refusal_of (Ok n) = None
refusal_of (Err w) = Some w

abbrev pub counts_of : Result Corrections EntryFault → Corrections
counts_of (Ok n) = n
counts_of (Err w) = none_corrected

-- the record of entry e: its line of the contents, the place and size of its result behind those before it, and what was corrected or why it is refused
unfoldable pub record_at : List ℕ → ℕ → Entry
record_at f e = record {
  line = line_at f e;
  place = (needs_before f e).results;
  size = length (entry_outcome f e).result;
  answer = (entry_outcome f e).answer;
}

-- the results of the first n entries, one behind another
unfoldable pub results_before : List ℕ → ℕ → List ℕ
results_before f zero = []
results_before f (suc e) = results_before f e ++ (entry_outcome f e).result

-- the records after the first n entries: theirs, and the others as they were
pub record Recorded (f : List ℕ) (n : ℕ) (before after : List Entry) : Type 0 where
  pub long : length after ≡ length before
  pub done : (e : ℕ) (d : Entry) → e < n → slice_index_or after e d ≡ record_at f e
  pub kept : (e : ℕ) (d : Entry) → n ≤ e → slice_index_or after e d ≡ slice_index_or before e d

-- working buffers that hold nothing
pub record Idle (first second steps : List ℕ) (hard : List (Option Bool)) (soft : List ℤ) : Type 0 where
  pub first_zero : first ≡ zeros (length first)
  pub second_zero : second ≡ zeros (length second)
  pub steps_zero : steps ≡ zeros (length steps)
  pub hard_absent : hard ≡ replicate (length hard) None
  pub soft_zero : soft ≡ replicate (length soft) (pos 0)

-- the first e entries are run: the next one starts at `start`, and its result lies at `place` behind theirs
pub record Reached (f : List ℕ) (e start place : ℕ) (results : List ℕ) : Type 0 where
  pub start_is : start ≡ start_at f e
  pub place_is : place ≡ (needs_before f e).results
  pub long : length (results_before f e) ≡ place
  pub held : results ≡ padded (length results) (results_before f e)

-- a book that nothing is wrong with is run to its last entry: each has its record, the results lie one behind another with zeros behind them, and the working buffers hold nothing
pub record Ran (f : List ℕ) (records : List Entry) (results : List ℕ) (r : Result ℕ BookFault) (records' : List Entry) (results' first second steps : List ℕ) (hard : List (Option Bool)) (soft : List ℤ) : Type 0 where
  pub answer : r ≡ Ok (count f)
  pub recorded : Recorded f (count f) records records'
  pub held : results' ≡ padded (length results) (results_before f (count f))
  pub idle : Idle first second steps hard soft

-- every other book is refused, and all is left as found
pub record Left (w : BookFault) (records : List Entry) (results first second steps : List ℕ) (hard : List (Option Bool)) (soft : List ℤ) (r : Result ℕ BookFault) (records' : List Entry) (results' first' second' steps' : List ℕ) (hard' : List (Option Bool)) (soft' : List ℤ) : Type 0 where
  pub answer : r ≡ Err w
  pub records_as_found : records' ≡ records
  pub results_as_found : results' ≡ results
  pub first_as_found : first' ≡ first
  pub second_as_found : second' ≡ second
  pub steps_as_found : steps' ≡ steps
  pub hard_as_found : hard' ≡ hard
  pub soft_as_found : soft' ≡ soft

-- a call that runs a book
abbrev pub BookRun : List ℕ → List Entry → List ℕ → List ℕ → List ℕ → List ℕ → List (Option Bool) → List ℤ → Result ℕ BookFault → List Entry → List ℕ → List ℕ → List ℕ → List ℕ → List (Option Bool) → List ℤ → Type 0
BookRun f records results first second steps hard soft r records' results' first' second' steps' hard' soft' =
    MatchOption (book_wrong f (length first) (length second) (length steps) (length hard) (length soft) (length results) (length records))
    (Ran f records results r records' results' first' second' steps' hard' soft')
    (λ w. Left w records results first second steps hard soft r records' results' first' second' steps' hard' soft')

-- once the file is judged, an entry is refused only for a word without a near code word, or for a byte that is no mark
abbrev pub TwoRefusals : List ℕ → Type 0
TwoRefusals f = file_wrong f ≡ None → (e : ℕ) (w : EntryFault) → e < count f → (entry_outcome f e).answer ≡ Err w → ((entry_report w).number ≡ 5) ⊎ ((entry_report w).number ≡ 17)
