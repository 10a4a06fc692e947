-- What the loop over a run keeps.
use Rattle.std.proofs.Common.{◌+◌, ◌*◌}
use Rattle.permutation.specs.Arrange.{Moved}
use Rattle.permutation.proofs.arrange.place_run.Given as goal

-- the elements of the run so far stand at their places
abbrev pub invariant-loop-k : goal.invariant-loop-k
invariant-loop-k g l = Moved (g.P.Arrange.meaning l.rule).place (l.row * (g.P.Arrange.meaning l.rule).columns + l.column) l.k l.from l.initial.to l.to
