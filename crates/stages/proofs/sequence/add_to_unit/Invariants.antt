-- The register at the byte, and what the rest of the unit is still to become.
use Rattle.std.proofs.Common.{◌≡◌, ◌*◌, ◌++◌, take, drop}
use Rattle.stages.specs.Sequence.{after, key_from, keyed}
use Rattle.stages.proofs.sequence.add_to_unit.Given as goal

abbrev pub invariant-loop-byte : goal.invariant-loop-byte
invariant-loop-byte l =
    (l.register ≡ after (8 * l.byte-index) l.initial.register)
    × (take l.byte-index l.part ++ keyed (key_from l.initial.register) l.byte-index (drop l.byte-index l.part) ≡ keyed (key_from l.initial.register) 0 l.initial.part)
