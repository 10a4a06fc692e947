-- The marks so far stand at their places.
use Rattle.std.proofs.Common.{◌≡◌, ℕ, List, ◌++◌, length, take}
use Rattle.line.specs.Line.{spread}
use Rattle.line.proofs.sending.put_marks.Given as goal

abbrev pub invariant-loop-k : goal.invariant-loop-k
invariant-loop-k l = (ms : List ℕ) → length ms ≡ l.at → l.initial.symbols ≡ spread l.rule.grid.rows l.rule.grid.columns ms → l.symbols ≡ spread l.rule.grid.rows l.rule.grid.columns (ms ++ take l.k l.marks)
