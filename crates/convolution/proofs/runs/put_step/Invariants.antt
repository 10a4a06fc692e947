-- The marks of the rows so far stand behind those before.
use Rattle.std.proofs.Common.{◌≡◌, ◌+◌, ◌≤◌, ◌++◌, take}
use Rattle.std.specs.List.{flat_map}
use Rattle.convolution.proofs.Writing.{kept_of}
use Rattle.convolution.proofs.runs.put_step.Given as goal

abbrev pub invariant-loop-row : goal.invariant-loop-row
invariant-loop-row l = (l.end ≤ l.count + l.row-index) × (take l.end l.marks ≡ take l.count l.initial.marks ++ flat_map (kept_of l.i) (take l.row-index l.row-items))
