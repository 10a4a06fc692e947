-- What the units behind are still to become.
use Rattle.std.proofs.Common.{◌≡◌, ◌*◌, ◌++◌, take, drop}
use Rattle.stages.specs.Sequence.{key_at, keyed, randomised}
use Rattle.stages.proofs.sequence.add_sequence.Given as goal

abbrev pub invariant-loop-u : goal.invariant-loop-u
invariant-loop-u l =
    take (l.u * l.unit) l.body ++ keyed (key_at l.seed l.unit) (l.u * l.unit) (drop (l.u * l.unit) l.body) ≡ randomised l.seed l.unit l.initial.body
