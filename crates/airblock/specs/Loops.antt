-- A body put on a carrier whose clean readings are its symbols, and read back.
use Rattle.std.specs.Prelude.{◌≡◌, ℕ, List, length, take, Ok, Err, Result}
use Rattle.stack.specs.declared.corrections.Corrections.{Corrections}
use Rattle.stack.specs.declared.fault.Refusal.{Refusal}
use Rattle.stack.specs.Buffers.{padded}
use Rattle.stack.specs.Meaning.{CarrierMeaning}

-- the body is back, with nothing corrected, and the symbols are its block
abbrev pub Back : CarrierMeaning ℕ → List ℕ → List ℕ → List ℕ → Result Corrections Refusal → Type 0
Back c a a' m' (Ok k) = (k ≡ record { symbols = 0; bytes = 0 }) × (a' ≡ padded (length a) (take c.body a)) × (m' ≡ c.sent (take c.body a))
Back c a a' m' (Err f) = Unit {0}

-- the same where the carrier's parts fit and its clean readings are the symbols
abbrev pub Looped : Type 0 → CarrierMeaning ℕ → List ℕ → List ℕ → List ℕ → Result Corrections Refusal → Type 0
Looped F c a a' m' r = F → ((m : List ℕ) → c.clean m ≡ m) → Back c a a' m' r
