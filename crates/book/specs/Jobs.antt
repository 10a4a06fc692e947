-- A judged entry.
use Rattle.std.specs.Prelude.{◌≡◌, ◌<◌, true, Some}
use Rattle.plan.specs.Listed.{listed}
use Rattle.book.specs.declared.contents.EntryLine.{EntryLine}
use Rattle.book.specs.declared.job.Job.{Job}
use Rattle.book.specs.Contents.{kind_of}
use Rattle.book.specs.Judging.{allowed, asked}

-- a job does what a line says, for a carrier of its plan and at its plan's length
pub record JobOf (l : EntryLine) (j : Job) : Type 0 where
  pub plan : listed l.plan ≡ Some (record { numbers = j.plan.numbers; unit = j.plan.unit })
  pub kind : kind_of l.kind ≡ Some j.kind
  pub start : j.start ≡ l.start
  pub long : j.length ≡ l.length
  pub short : j.length < 65536
  pub fine : allowed j.kind j.plan.numbers ≡ true
  pub asks : j.length ≡ asked j.kind j.plan.numbers
