-- What is wrong with a book, in the order in which it is judged.
use Rattle.std.specs.Prelude.{◌≡◌, ℕ, zero, suc, ◌+◌, ◌*◌, ◌<◌, ◌≤◌, max, Bool, true, cond, not, ◌&&◌, List, length, Some, None, Option, ◌==◌, ◌≢◌, nat_le}
use Rattle.limits.specs.declared.numbers.PlanNumbers.{PlanNumbers}
use Rattle.limits.specs.Limits.{between, body_length, coded_length}
use Rattle.plan.specs.Listed.{listed}
use Rattle.limits.specs.Limits.{on_bare, air_length, step_count}
use Rattle.plan.specs.Stacks.{Layout}
use Rattle.book.specs.declared.contents.Kind.{Kind}
use Rattle.book.specs.declared.contents.Kind.TheVariants.{Body, Block, Soft, Samples}
use Rattle.book.specs.declared.contents.EntryLine.{EntryLine}
use Rattle.book.specs.declared.fault.BookFault.{BookFault}
use Rattle.book.specs.declared.fault.BookFault.TheVariants.{Size, Width, Count, Start, Unlisted, Kind as OfKind, Length, Buffers}
use Rattle.book.specs.declared.job.Needs.{Needs}
use Rattle.book.specs.Contents.{width, count, contents_end, line_at, kind_of}

-- soft readings and samples are only for the line
abbrev pub allowed : Kind → PlanNumbers → Bool
allowed Body p = true
allowed Block p = true
allowed Soft p = not (on_bare p)
allowed Samples p = not (on_bare p)

-- the bytes of an entry of a kind
abbrev pub asked : Kind → PlanNumbers → ℕ
asked Body p = body_length p
asked Block p = air_length p
asked Soft p = air_length p
asked Samples p = 2 * air_length p

-- the bytes of its result
abbrev pub result_length : Kind → PlanNumbers → ℕ
result_length Body p = air_length p
result_length Block p = body_length p
result_length Soft p = body_length p
result_length Samples p = body_length p

-- entry e, from 1, of a length: what is wrong with its kind, and then with its length
abbrev pub by_kind : ℕ → ℕ → PlanNumbers → Option Kind → Option BookFault
by_kind e n p None = Some (OfKind e)
by_kind e n p (Some k) = cond (allowed k p) (cond (n == asked k p) None (Some (Length e))) (Some (OfKind e))

-- what is wrong with its plan, and then with its kind
abbrev pub by_plan : ℕ → EntryLine → Option Layout → Option BookFault
by_plan e l None = Some (Unlisted e)
by_plan e l (Some p) = by_kind e l.length p.numbers (kind_of l.kind)

-- what is wrong with an entry that has to start at s
unfoldable pub entry_wrong : ℕ → ℕ → EntryLine → Option BookFault
entry_wrong e s l = cond (l.start == s) (by_plan e l (listed l.plan)) (Some (Start e))

-- where entry e, from 0, has to start: behind the contents and the entries before it
unfoldable pub start_at : List ℕ → ℕ → ℕ
start_at f zero = contents_end f
start_at f (suc e) = start_at f e + (line_at f e).length

-- the first fault stands
abbrev pub or_else : Option BookFault → Option BookFault → Option BookFault
or_else None w = w
or_else (Some v) w = Some v

-- what is wrong with the first n entries
unfoldable pub entries_wrong : List ℕ → ℕ → Option BookFault
entries_wrong f zero = None
entries_wrong f (suc e) = or_else (entries_wrong f e) (entry_wrong (e + 1) (start_at f e) (line_at f e))

-- what is wrong with the entries, and then with the end of the last
abbrev pub parts_wrong : List ℕ → Option BookFault
parts_wrong f = or_else (entries_wrong f (count f)) (cond (start_at f (count f) == length f) None (Some (Start (count f))))

-- what is wrong with a file: its size, its width, its number of entries, its size with the contents, its parts
unfoldable pub file_wrong : List ℕ → Option BookFault
file_wrong f =
    cond (between 2 60000 (length f))
    (cond (width f == 6) (cond (between 1 32 (count f)) (cond (nat_le (contents_end f) (length f)) (parts_wrong f) (Some Size)) (Some Count)) (Some Width))
    (Some Size)

-- what an entry of a kind needs of the lent buffers: bytes, steps, hard and soft readings, and bytes of results
abbrev pub kind_needs : Kind → PlanNumbers → Needs
kind_needs Body p = record { bytes = coded_length p; steps = 0; hard = 0; soft = 0; results = result_length Body p }
kind_needs Block p = record { bytes = coded_length p; steps = step_count p; hard = cond (on_bare p) 0 (air_length p); soft = 0; results = result_length Block p }
kind_needs Soft p = record { bytes = coded_length p; steps = step_count p; hard = 0; soft = air_length p; results = result_length Soft p }
kind_needs Samples p = record { bytes = coded_length p; steps = step_count p; hard = 0; soft = air_length p; results = result_length Samples p }

abbrev pub no_needs : Needs
no_needs = record { bytes = 0; steps = 0; hard = 0; soft = 0; results = 0 }

-- the needs of an entry whose plan is listed and whose kind is known
abbrev pub needs_by : Option Layout → Option Kind → Needs
needs_by None k = no_needs
needs_by (Some p) None = no_needs
needs_by (Some p) (Some k) = kind_needs k p.numbers

unfoldable pub entry_needs : EntryLine → Needs
entry_needs l = needs_by (listed l.plan) (kind_of l.kind)

-- buffers that serve one job after another; results lie behind one another
abbrev pub and_needs : Needs → Needs → Needs
and_needs a b = record {
  bytes = max a.bytes b.bytes;
  steps = max a.steps b.steps;
  hard = max a.hard b.hard;
  soft = max a.soft b.soft;
  results = a.results + b.results;
}

-- the needs of the first n entries
unfoldable pub needs_before : List ℕ → ℕ → Needs
needs_before f zero = no_needs
needs_before f (suc e) = and_needs (needs_before f e) (entry_needs (line_at f e))

-- the lengths of two byte buffers, steps, hard and soft readings are enough for some needs
pub record Enough (n : Needs) (first second steps hard soft : ℕ) : Type 0 where
  pub equal : second ≡ first
  pub bytes : n.bytes ≤ first
  pub step : n.steps ≤ steps
  pub marks : n.hard ≤ hard
  pub readings : n.soft ≤ soft

-- the lengths of what was lent: two byte buffers, steps, hard and soft readings, results and records
abbrev pub lent_enough : Needs → ℕ → ℕ → ℕ → ℕ → ℕ → ℕ → ℕ → ℕ → Bool
lent_enough n entries first second steps hard soft results records =
    (first == second) && nat_le n.bytes first && nat_le n.steps steps && nat_le n.hard hard && nat_le n.soft soft && nat_le n.results results && nat_le entries records

-- what is wrong with a book and what was lent for it
abbrev pub book_wrong : List ℕ → ℕ → ℕ → ℕ → ℕ → ℕ → ℕ → ℕ → Option BookFault
book_wrong f first second steps hard soft results records =
    or_else (file_wrong f) (cond (lent_enough (needs_before f (count f)) (count f) first second steps hard soft results records) None (Some Buffers))

-- the parts of a book that is not refused lie one behind another, from the end of the contents to the end of the file
pub record Covered (f : List ℕ) : Type 0 where
  pub first : (line_at f 0).start ≡ contents_end f
  pub next : (e : ℕ) → e + 1 < count f → (line_at f (e + 1)).start ≡ (line_at f e).start + (line_at f e).length
  pub last : (e : ℕ) → e + 1 ≡ count f → (line_at f e).start + (line_at f e).length ≡ length f

-- whatever else a file of allowed size holds, a width that is not 6 is refused as such
abbrev pub OtherWidth : List ℕ → Type 0
OtherWidth f = 2 ≤ length f → length f ≤ 60000 → (width f ≢ 6) → file_wrong f ≡ Some Width
