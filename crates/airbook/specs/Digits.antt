-- Marks as digits, and which results are marks.
use Rattle.std.specs.Prelude.{◌≡◌, ℕ, false, ◌==◌, cond, Some}
use Rattle.book.specs.Contents.{kind_of}
use Rattle.book.specs.declared.contents.EntryLine.{EntryLine}
use Rattle.book.specs.declared.contents.Kind.TheVariants.{Body}
use Rattle.limits.specs.Limits.{on_bare}
use Rattle.plan.specs.Listed.{listed}
use Rattle.plan.specs.Stacks.{Layout}

-- the character of a mark: 0 for mark 0, and 1 for any other
abbrev pub digit : ℕ → ℕ
digit mark = cond (mark == 0) 48 49

-- the result is marks: a body that a listed plan writes on the line
abbrev pub IsLineBlock : EntryLine → Type 0
IsLineBlock l = (kind_of l.kind ≡ Some Body) × ((p : Layout) × ((listed l.plan ≡ Some p) × (on_bare p.numbers ≡ false)))
