use Rattle.std.proofs.Common.{◌≡◌, ◌*◌, ◌≤◌, take, map}
use Rattle.convolution.proofs.Sending.{rows}
use Rattle.convolution.proofs.encoder.Encoder.run.Given as goal

abbrev pub invariant-loop-i : goal.invariant-loop-i
invariant-loop-i l = (l.count ≤ 3 * l.i) × (take l.count l.marks ≡ rows (map (λ r. r.marks) l.rows) (map (λ r. r.kept) l.rows) l.i)
