use Rattle.std.proofs.Common.{◌≤◌, length}
use Rattle.book.specs.Running.{Idle, Reached, Recorded}
use Rattle.book.proofs.run.run_entries.Given as goal

-- the entries before e are run
abbrev pub invariant-loop-e : goal.invariant-loop-e
invariant-loop-e l =
    Reached l.file l.e l.start l.place l.results × Recorded l.file l.e l.initial.records l.records × Idle l.first l.second l.steps l.hard l.soft × (l.start ≤ length l.file) × (l.place ≤ length l.results)
