-- What a read by a plan hands up to its entry.
use Rattle.std.specs.Prelude.{◌≡◌, ℕ, ◌<◌, ◌≤◌, Bool, true, false, List, length, take, ℤ, Ok, Err, Some, Option, Result, MatchOption}
use Rattle.plan.specs.declared.refusal.PlanRefusal.{PlanRefusal}
use Rattle.plan.specs.declared.refusal.PlanRefusal.TheVariants.{OtherCarrier, Stack}
use Rattle.stack.specs.declared.corrections.Corrections.{Corrections}
use Rattle.stack.specs.declared.fault.Refusal.TheVariants.{Early, Late}
use Rattle.stack.specs.Buffers.{zeros}
use Rattle.book.specs.declared.fault.EntryFault.{EntryFault}
use Rattle.book.specs.declared.fault.EntryFault.TheVariants.{Mark, Coding}
use Rattle.book.specs.declared.contents.Kind.{Kind}
use Rattle.limits.specs.Limits.{on_bare, air_length, coded_length, step_count}
use Rattle.limits.specs.declared.numbers.PlanNumbers.{PlanNumbers}
use Rattle.book.specs.Judging.{Enough, allowed, asked, kind_needs, result_length}
use Rattle.book.specs.Running.{Idle, Outcome, mark_of, first_over}

-- a body, or a refusal for what the readings say
abbrev pub OnlyLate : Result Corrections PlanRefusal → Type 0
OnlyLate (Ok n) = Unit {0}
OnlyLate (Err OtherCarrier) = ⊥
OnlyLate (Err (Stack (Early m))) = ⊥
OnlyLate (Err (Stack (Late f))) = Unit {0}

-- the entry's answer to them
abbrev pub Answered : Result Corrections PlanRefusal → Result Corrections EntryFault → Type 0
Answered (Ok n) r = r ≡ Ok n
Answered (Err OtherCarrier) r = ⊥
Answered (Err (Stack (Early m))) r = ⊥
Answered (Err (Stack (Late f))) r = r ≡ Err (Coding f)

-- the entry's part of the results: the front of the buffer, or as it was
abbrev pub part_after : Result Corrections PlanRefusal → List ℕ → List ℕ → List ℕ
part_after (Ok n) first part = take (length part) first
part_after (Err w) first part = part

-- the buffer: zero, or as it was
abbrev pub first_after : Result Corrections PlanRefusal → List ℕ → List ℕ
first_after (Ok n) first = zeros (length first)
first_after (Err w) first = first

-- so many readings are a block of a plan on the line
abbrev pub LineBlock : PlanNumbers → ℕ → Type 0
LineBlock p n = (on_bare p ≡ false) × (n ≡ air_length p)

-- two byte buffers and a step buffer are long enough for a read by a plan
abbrev pub RoomToRead : PlanNumbers → List ℕ → List ℕ → List ℕ → Type 0
RoomToRead p first second steps = (coded_length p ≤ length first) × ((length second ≡ length first) × (step_count p ≤ length steps))

-- a byte is a mark, or over 2
abbrev pub MarkOf : ℕ → Option (Option Bool) → Type 0
MarkOf b o = MatchOption o (2 < b) (λ m. (b ≤ 2) × (m ≡ mark_of b))

-- refused for the first byte that is no mark
abbrev pub FirstOver : List ℕ → EntryFault → Type 0
FirstOver bs (Mark i) = first_over 0 bs ≡ Some i
FirstOver bs (Coding f) = ⊥

-- an entry that was read: its answer, its part of the results, and the buffers behind it
pub record ReadEntry (o : Outcome) (a b t : List ℕ) (r : Result Corrections EntryFault) (m' a' b' t' : List ℕ) : Type 0 where
  pub answer : r ≡ o.answer
  pub part : m' ≡ o.result
  pub first : a' ≡ zeros (length a)
  pub second : b' ≡ zeros (length b)
  pub steps : t' ≡ zeros (length t)

-- what is known of a job before it is done
pub record Fit (k : Kind) (p : PlanNumbers) (n : ℕ) (m : List ℕ) (first second steps hard soft : ℕ) : Type 0 where
  pub fine : allowed k p ≡ true
  pub long : n ≡ asked k p
  pub room : Enough (kind_needs k p) first second steps hard soft
  pub empty : m ≡ zeros (result_length k p)

-- what is known of it afterwards
pub record Done (o : Outcome) (r : Result Corrections EntryFault) (m a b t : List ℕ) (h : List (Option Bool)) (s : List ℤ) : Type 0 where
  pub answer : r ≡ o.answer
  pub result : m ≡ o.result
  pub idle : Idle a b t h s
