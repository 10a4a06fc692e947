-- Reed-Solomon on the block interleaver on any carrier: what damage it bears, and when it refuses.
use Rattle.std.specs.Prelude.{◌≡◌, ℕ, ◌+◌, ◌*◌, ◌<◌, ◌≤◌, ◌⊎◌, List, length, Ok, Err, slice_index}
use Rattle.galois.specs.Bytes.{ByteField}
use Rattle.outer.specs.Nearest.{Near}
use Rattle.outer.specs.Words.{distance}
use Rattle.permutation.specs.Arrange.{restored}
use Rattle.permutation.specs.Transposed.{transposition}
use Rattle.stack.specs.declared.fault.Fault.TheVariants.{NoCodeWord}
use Rattle.stack.specs.Buffers.{Bytes}
use Rattle.stack.specs.Meaning.{Received, CarrierMeaning, stacked}
use Rattle.stages.specs.Interleaving.{interleaving}
use Rattle.reed_solomon.specs.Coding.{word, coding}

-- two lists are the same outside m neighbouring places, the first of them p
abbrev pub SameOutside : ℕ → ℕ → List ℕ → List ℕ → Type 0
SameOutside p m xs ys = (i : ℕ) → (i < p) ⊎ (p + m ≤ i) → slice_index xs i ≡ slice_index ys i

module _ {R : Type 0} (f : ByteField) (r words k e : ℕ) (c : CarrierMeaning R) where
  -- the stack: the code on the interleaver on the carrier
  abbrev pub protected : CarrierMeaning R
  protected = stacked (coding f r words k e) (stacked (interleaving words (k + 2 * e)) c)

  -- the bytes that are written on the carrier for a body
  abbrev pub written : List ℕ → List ℕ
  written x = (interleaving words (k + 2 * e)).encode ((coding f r words k e).encode x)

  -- the words, one after another, of the bytes that the carrier hands up
  abbrev pub handed : List ℕ → List ℕ
  handed y = restored (transposition words (k + 2 * e)) y

  -- word w of the bytes handed up has a code word within e bytes
  abbrev pub HasNear : List ℕ → ℕ → Type 0
  HasNear y w = (z : List ℕ) × Near f r e (k + 2 * e) (word (k + 2 * e) w (handed y)) z

  pub record Protected : Type 0 where
    -- bytes that differ from those written only inside e * words neighbouring places: the body returns, and the bytes that differ are counted as corrected
    pub burst : (x : List ℕ) (rs : List R) (g : Received) (p : ℕ) → length x ≡ words * k → Bytes x → length rs ≡ c.air → c.got rs ≡ Ok g
        → SameOutside p (e * words) (written x) g.body
        → protected.got rs ≡ Ok (record { body = x; counts = record { symbols = g.counts.symbols; bytes = g.counts.bytes + distance ((coding f r words k e).encode x) (handed g.body) } })
    -- every word has a code word within e bytes: a body is given
    pub gives : (rs : List R) (g : Received) → length rs ≡ c.air → c.got rs ≡ Ok g → ((w : ℕ) → w < words → HasNear g.body w) → (d : Received) × (protected.got rs ≡ Ok d)
    -- some word has none: the lowest such word is refused, at depth 0
    pub refuses : (rs : List R) (g : Received) (w : ℕ) → length rs ≡ c.air → c.got rs ≡ Ok g → w < words → (HasNear g.body w → ⊥)
        → (v : ℕ) × (v ≤ w) × (HasNear g.body v → ⊥) × ((u : ℕ) → u < v → HasNear g.body u) × (protected.got rs ≡ Err (record { depth = 0; fault = NoCodeWord v }))
