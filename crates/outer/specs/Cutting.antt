-- A polynomial that annihilates the syndromes, cut out of the powers of x equation by equation.
use Rattle.std.specs.Prelude.{◌≡◌, ℕ, ◌+◌, ◌^◌, ◌<◌, ◌≤◌, List, [], length, take, bit_xor, slice_index, slice_index_or}
use Rattle.galois.specs.Bytes.{ByteField, FieldRule}
use Rattle.outer.specs.declared.lanes.Row.{Row}
use Rattle.outer.specs.declared.lanes.Multiples.{Multiples}
use Rattle.outer.specs.ByteLists.{Bytes}
use Rattle.outer.specs.Decoding.{applied, Annihilates}
use Rattle.outer.specs.Lanes.{lane, Are}

-- the first e + 1 lanes are a polynomial, lowest coefficient first and not zero, that annihilates the syndromes; the lanes behind them are zero
pub record Annihilator (f : ByteField) (e : ℕ) (s p : List ℕ) : Type 0 where
  pub size : length (take (e + 1) p) ≡ e + 1
  pub small : Bytes (take (e + 1) p)
  pub not_zero : ¬ ((i : ℕ) → slice_index (take (e + 1) p) i ≡ 0)
  pub annihilates : Annihilates f e (take (e + 1) p) s
  pub beyond : (l : ℕ) → e < l → lane p l ≡ 0

-- the same constant in every lane
abbrev pub always : ℕ → ℕ → ℕ
always k l = k

-- a list from place j on, a term for each lane
abbrev pub from : List ℕ → ℕ → ℕ → ℕ
from s j l = lane s (j + l)

-- the multiples of the bytes 1, 2, 4, .. , 128, each in every lane
abbrev pub Scales : ByteField → List Multiples → Type 0
Scales f ms = (i : ℕ) → i < 8 → Are f (always (2 ^ i)) (slice_index_or ms i (record { rows = [] })).rows

-- in every field with these scales, the rows are the multiples of the vector's bytes
abbrev pub Scaled : List Multiples → List ℕ → List Row → Type 0
Scaled ms v rows = (f : ByteField) → FieldRule f → Scales f ms → Are f (lane v) rows

-- where the first rows are the multiples of a list of 32 terms at most from place j on, the others are its multiples from place j + 1 on
abbrev pub MovedOn : List Row → List Row → Type 0
MovedOn rows others = (f : ByteField) (s : List ℕ) (j : ℕ) → FieldRule f → length s ≤ 32 → Are f (from s j) rows → Are f (from s (j + 1)) others

-- where the rows are the multiples of a list from place j on, r is the polynomial, applied there
abbrev pub Applies : List Row → List ℕ → ℕ → Type 0
Applies rows p r = (f : ByteField) (s : List ℕ) (j : ℕ) → FieldRule f → Are f (from s j) rows → r ≡ applied f p s j

-- polynomial b of an array of them, a coefficient in each lane
abbrev pub polynomial : List Row → ℕ → List ℕ
polynomial ps b = (slice_index_or ps b (record { lanes = [] })).lanes

-- each lane of r is the next of v, and the last is 0
pub record Moved (v r : List ℕ) : Type 0 where
  pub each : (l : ℕ) → l < 31 → lane r l ≡ lane v (1 + l)
  pub last : lane r 31 ≡ 0

-- of the first n polynomials, b is the first that does not give 0 at place j of the list, and n if all do
pub record FirstFailing (f : ByteField) (s : List ℕ) (j : ℕ) (ps : List Row) (n b : ℕ) : Type 0 where
  pub before : (k : ℕ) → k < b → applied f (polynomial ps k) s j ≡ 0
  pub found : b < n → ¬ (applied f (polynomial ps b) s j ≡ 0)

-- 32 lanes, a byte in each
pub record Vector (p : List ℕ) : Type 0 where
  pub long : length p ≡ 32
  pub small : Bytes p

-- r is the polynomial v, and k times the polynomial p added
pub record Sum (f : ByteField) (k : ℕ) (p v r : List ℕ) : Type 0 where
  pub vector : Vector r
  pub each : (l : ℕ) → l < 32 → lane r l ≡ bit_xor (lane v l) (f.mul k (lane p l))

-- how many times the polynomial p is to be added to v for a sum that gives 0 at place j of a list
abbrev pub factor : ByteField → List ℕ → ℕ → List ℕ → List ℕ → ℕ
factor f s j p v = f.mul (applied f v s j) (f.inv (applied f p s j))

-- polynomial b is gone, and each of the first n behind it has come one place forward, with the multiple of b added that makes it give 0 at place j of the list
pub record Cleared (f : ByteField) (s : List ℕ) (j n b : ℕ) (ps qs : List Row) : Type 0 where
  pub ahead : (k : ℕ) → k < b → polynomial qs k ≡ polynomial ps k
  pub behind : (k : ℕ) → b ≤ k → k + 1 < n → Sum f (factor f s j (polynomial ps b) (polynomial ps (k + 1))) (polynomial ps b) (polynomial ps (k + 1)) (polynomial qs k)

-- polynomial b is 1 at a place, e at most, at which all before it are 0
pub record Leads (e : ℕ) (ps : List Row) (b : ℕ) : Type 0 where
  pub place : ℕ
  pub low : place ≤ e
  pub one : lane (polynomial ps b) place ≡ 1
  pub zeros : (a : ℕ) → a < b → lane (polynomial ps a) place ≡ 0

-- after j equations n polynomials are left, of degree e at most and independent, that meet them all
pub record Cut (f : ByteField) (e : ℕ) (s : List ℕ) (j n : ℕ) (ps : List Row) : Type 0 where
  pub few : n ≤ e + 1
  pub left : e + 1 ≤ n + j
  pub vectors : (b : ℕ) → b < n → Vector (polynomial ps b)
  pub degree : (b l : ℕ) → b < n → e < l → l < 32 → lane (polynomial ps b) l ≡ 0
  pub meets : (b i : ℕ) → b < n → i < j → applied f (polynomial ps b) s i ≡ 0
  pub leads : (b : ℕ) → b < n → Leads e ps b

-- the polynomial x^b
pub record Power (b : ℕ) (p : List ℕ) : Type 0 where
  pub vector : Vector p
  pub one : lane p b ≡ 1
  pub zeros : (l : ℕ) → ¬ (l ≡ b) → lane p l ≡ 0

-- the polynomials 1, x, x^2, .. , x^16
abbrev pub Powers : List Row → Type 0
Powers ps = (b : ℕ) → b < 17 → Power b (polynomial ps b)

-- where the rows are the multiples of a list from place j on, b is the first of n polynomials that fails there
abbrev pub Fails : List Row → List Row → ℕ → ℕ → Type 0
Fails rows ps n b = (f : ByteField) (s : List ℕ) (j : ℕ) → FieldRule f → Are f (from s j) rows → FirstFailing f s j ps n b

-- where the rows are the multiples of a list from place j on, the pivot's rows those of a polynomial, and i the inverse of what it gives there, r is v with the multiple of it added that makes it give 0
abbrev pub Clears : ByteField → List Row → List Row → ℕ → List ℕ → List ℕ → Type 0
Clears f rows pivot i v r =
    (s : List ℕ) (j : ℕ) (p : List ℕ) → Are f (from s j) rows → Are f (lane p) pivot → i ≡ f.inv (applied f p s j) → Sum f (factor f s j p v) p v r

-- where the rows are the multiples of a list from place j on, polynomial b of n is gone, and those behind it are cleared
abbrev pub ClearsAll : ByteField → List Row → List Multiples → ℕ → ℕ → List Row → List Row → Type 0
ClearsAll f rows scales n b ps qs = (s : List ℕ) (j : ℕ) → Scales f scales → Are f (from s j) rows → Cleared f s j n b ps qs

-- where the rows are the multiples of a list of bytes from place j on, n polynomials after j equations come to m after one more
abbrev pub Cuts : ByteField → List Row → List Multiples → ℕ → ℕ → List Row → List Row → Type 0
Cuts f rows scales n m ps qs =
    (e : ℕ) (s : List ℕ) (j : ℕ) → e ≤ 16 → Bytes s → Scales f scales → Are f (from s j) rows → Cut f e s j n ps → Cut f e s (j + 1) m qs
