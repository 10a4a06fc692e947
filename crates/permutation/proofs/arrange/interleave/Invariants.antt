-- What the loop over the rows keeps.
use Rattle.std.proofs.Common.{◌*◌}
use Rattle.permutation.specs.Arrange.{Placed}
use Rattle.permutation.proofs.arrange.interleave.Given as goal

-- the elements of the rows before stand at their places
abbrev pub invariant-loop-row : goal.invariant-loop-row
invariant-loop-row g l = Placed (g.P.Arrange.meaning l.rule).place (l.row * (g.P.Arrange.meaning l.rule).columns) l.from l.to
