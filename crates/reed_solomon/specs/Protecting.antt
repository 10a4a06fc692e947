-- A code on the interleaver of its words on a carrier: when they stand, and when they do not meet.
use Rattle.std.specs.Prelude.{◌≡◌, ℕ, ◌+◌, ◌*◌, ◌≤◌}
use Rattle.galois.specs.Bytes.{ByteField}
use Rattle.stack.specs.Meaning.{CarrierMeaning, Meets, stacked}
use Rattle.stages.specs.Interleaving.{interleaving}
use Rattle.reed_solomon.specs.Coding.{coding}

-- a code stands on an interleaver of so many rows and columns, and that on a carrier whose parts fit where P holds
abbrev pub Stands : {R : Type 0} → Type 0 → ByteField → ℕ → ℕ → ℕ → ℕ → ℕ → ℕ → CarrierMeaning R → Type 0
Stands P f r words k e rows columns c = (P × Meets (interleaving rows columns) c) × Meets (coding f r words k e) (stacked (interleaving rows columns) c)

-- the carrier's body is not as long as the code words together, or it is more than 30 high
abbrev pub Apart : {R : Type 0} → ℕ → ℕ → ℕ → CarrierMeaning R → Type 0
Apart words k e c = c.body ≡ words * (k + 2 * e) → c.height ≤ 30 → ⊥
