-- Rearranging a list by a permutation of its places.
use Rattle.std.specs.Prelude.{◌≡◌, ℕ, zero, suc, ◌+◌, ◌*◌, ◌<◌, ◌≢◌, List, [], ◌++◌, length, take, drop, slice_index_or}

-- the elements of a list at the places f 0, f 1, .. , f (n - 1)
unfoldable pub picked : {T : Type 0} → (ℕ → ℕ) → ℕ → List T → List T
picked f zero xs = []
picked f (suc n) xs = picked f n xs ++ take 1 (drop (f n) xs)

-- a permutation of n places: element i goes to `place i`, and place j takes element `source j`
pub record Permutes (n : ℕ) (place source : ℕ → ℕ) : Type 0 where
  pub place_below : (i : ℕ) → i < n → place i < n
  pub source_below : (j : ℕ) → j < n → source j < n
  pub source_place : (i : ℕ) → i < n → source (place i) ≡ i
  pub place_source : (j : ℕ) → j < n → place (source j) ≡ j

-- what a rule of rearrangement means, over a list written as rows of equal length
pub record Arrangement : Type 0 where
  pub rows : ℕ
  pub columns : ℕ
  pub place : ℕ → ℕ
  pub source : ℕ → ℕ

-- the number of places
abbrev pub size : Arrangement → ℕ
size a = a.rows * a.columns

-- the law of an arrangement: it permutes its places
abbrev pub Rearranges : Arrangement → Type 0
Rearranges a = Permutes (size a) a.place a.source

-- a list with each element moved to its place
unfoldable pub arranged : {T : Type 0} → Arrangement → List T → List T
arranged a xs = picked a.source (size a) xs

-- the list whose elements were moved to their places
unfoldable pub restored : {T : Type 0} → Arrangement → List T → List T
restored a ys = picked a.place (size a) ys

-- the first n elements of xs stand in ys at the places f 0, f 1, .. , f (n - 1)
abbrev pub Placed : {T : Type 0} → (ℕ → ℕ) → ℕ → List T → List T → Type 0
Placed {T} f n xs ys = (i : ℕ) (d : T) → i < n → slice_index_or ys (f i) d ≡ slice_index_or xs i d

-- the first n elements of ys are those of xs at the places f 0, f 1, .. , f (n - 1)
abbrev pub Taken : {T : Type 0} → (ℕ → ℕ) → ℕ → List T → List T → Type 0
Taken {T} f n xs ys = (i : ℕ) (d : T) → i < n → slice_index_or ys i d ≡ slice_index_or xs (f i) d

-- the first n elements of ys are those of xs at the places f s, f (s + 1), .. , f (s + n - 1)
abbrev pub TakenRun : {T : Type 0} → (ℕ → ℕ) → ℕ → ℕ → List T → List T → Type 0
TakenRun {T} f s n xs ys = (k : ℕ) (d : T) → k < n → slice_index_or ys k d ≡ slice_index_or xs (f (s + k)) d

-- the first n elements of ys are those of xs from element s on
abbrev pub Run : {T : Type 0} → ℕ → ℕ → List T → List T → Type 0
Run {T} s n xs ys = (k : ℕ) (d : T) → k < n → slice_index_or ys k d ≡ slice_index_or xs (s + k) d

-- the first n elements of a run stand at the places f s, f (s + 1), .. , f (s + n - 1), and at any other place zs is ys
pub record Moved {T : Type 0} (f : ℕ → ℕ) (s n : ℕ) (run ys zs : List T) : Type 0 where
  pub there : (k : ℕ) (d : T) → k < n → slice_index_or zs (f (s + k)) d ≡ slice_index_or run k d
  pub kept : (j : ℕ) (d : T) → ((k : ℕ) → k < n → j ≢ f (s + k)) → slice_index_or zs j d ≡ slice_index_or ys j d

-- zs is ys with a run moved to its places: after the elements of a list before it, it is one run more of the list
pub record PlacedRun {T : Type 0} (f : ℕ → ℕ) (s : ℕ) (run ys zs : List T) : Type 0 where
  pub moved : Moved f s (length run) run ys zs
  pub placed : (xs : List T) → Run s (length run) xs run → Placed f s xs ys → Placed f (s + length run) xs zs

-- ys is xs with each element moved to its place
pub record Interleaved {T : Type 0} (a : Arrangement) (xs ys : List T) : Type 0 where
  pub after : ys ≡ arranged a xs
  pub places : Placed a.place (size a) xs ys
  pub undone : restored a ys ≡ xs

-- ys is xs with each element taken back from its place
pub record Deinterleaved {T : Type 0} (a : Arrangement) (xs ys : List T) : Type 0 where
  pub after : ys ≡ restored a xs
  pub places : Taken a.place (size a) xs ys
  pub undone : arranged a ys ≡ xs
