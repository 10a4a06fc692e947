-- The lanes hold the remainder of the bytes so far.
use Rattle.std.proofs.Common.{◌≡◌, ℕ, ◌<◌, ◌≤◌, get_or, take}
use Rattle.galois.specs.Bytes.{ByteField, FieldRule}
use Rattle.outer.specs.Lanes.{lane, Are}
use Rattle.outer.specs.Encoder.{coefficient}
use Rattle.outer.proofs.Division.{remainder}
use Rattle.outer.proofs.encoder.check_bytes.Given as goal

abbrev pub invariant-loop-byte : goal.invariant-loop-byte
invariant-loop-byte s =
    (f : ByteField) (r c : ℕ) → FieldRule f → c ≤ 32 → Are f (coefficient f r c) s.generator.rows
    → (l : ℕ) → l < 32 → lane s.checks l ≡ get_or (remainder f r c (take s.byte-index s.bytes)) l 0
