use Rattle.std.proofs.Common.{◌≡◌, ◌+◌, ◌*◌, ◌≤◌, None}
use Rattle.book.specs.Judging.{entries_wrong, start_at, needs_before}
use Rattle.book.proofs.judge.judge_parts.Given as goal

-- nothing is wrong with the entries before e, and start and needs are those after them
abbrev pub invariant-loop-e : goal.invariant-loop-e
invariant-loop-e l =
    (entries_wrong l.file l.e ≡ None) × (l.start ≡ start_at l.file l.e) × (l.needs ≡ needs_before l.file l.e) × (l.start ≤ 200 + 65536 * l.e) × (l.needs.results ≤ 98304 * l.e)
