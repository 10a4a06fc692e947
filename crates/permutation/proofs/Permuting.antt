-- A list rearranged by a permutation of its places, and put back.
use Rattle.std.proofs.Common.{◌≡◌, ℕ, ◌<◌, List, length, get_or, sym, ap, ◌∙◌, arith}
use Rattle.permutation.specs.Arrange.{picked, Arrangement, size, Rearranges, arranged, restored, Placed, Taken, Interleaved, Deinterleaved}
use Rattle.permutation.proofs.Picking.{length-picked, get_d_picked, picked-from_taken, picked_below}

-- what one pick does, a pick that takes each place back undoes
picked-back : {T : Type 0} (f g : ℕ → ℕ) (n : ℕ) (xs : List T) → ((i : ℕ) → i < n → f i < n) → ((i : ℕ) → i < n → g i < n) → ((i : ℕ) → i < n → g (f i) ≡ i) → length xs ≡ n
    → picked f n (picked g n xs) ≡ xs
picked-back f g n xs low back undo many =
    let inside : (i : ℕ) → i < n → g i < length xs = λ i k. omega (arith, back i k) in
    let first : length (picked g n xs) ≡ n = length-picked g n xs inside in
    sym (
    picked-from_taken f n (picked g n xs) xs (λ i k. omega (arith, low i k)) many
    (λ i d k. sym (get_d_picked g n xs inside (f i) d (low i k) ∙ ap (λ j. get_or xs j d) (undo i k)))
    )

module _ {T : Type 0} (a : Arrangement) (law : Rearranges a) (xs : List T) (many : length xs ≡ size a) where
  -- every place that `arranged` reads is in the list
  source_inside : (j : ℕ) → j < size a → a.source j < length xs
  source_inside j k = omega (arith, law.source_below j k)

  -- every place that `restored` reads is in the list
  place_inside : (i : ℕ) → i < size a → a.place i < length xs
  place_inside i k = omega (arith, law.place_below i k)

  -- rearranging keeps the length
  pub length-arranged : length (arranged a xs) ≡ size a
  unfolding arranged
  length-arranged = length-picked a.source (size a) xs source_inside

  -- putting back keeps the length
  pub length-restored : length (restored a xs) ≡ size a
  unfolding restored
  length-restored = length-picked a.place (size a) xs place_inside

  -- putting back undoes rearranging
  pub restored-arranged : restored a (arranged a xs) ≡ xs
  unfolding arranged restored
  restored-arranged = picked-back a.place a.source (size a) xs law.place_below law.source_below law.source_place many

  -- rearranging undoes putting back
  pub arranged-restored : arranged a (restored a xs) ≡ xs
  unfolding arranged restored
  arranged-restored = picked-back a.source a.place (size a) xs law.source_below law.place_below law.place_source many

  -- a list that holds each element at its place is the rearranged one
  pub interleaved_from_placed : (ys : List T) → length ys ≡ size a → Placed a.place (size a) xs ys → Interleaved a xs ys
  unfolding arranged
  interleaved_from_placed ys all placed =
      let taken : Taken a.source (size a) xs ys = λ j d k. ap (λ p. get_or ys p d) (sym (law.place_source j k)) ∙ placed (a.source j) d (law.source_below j k) in
      let moved : ys ≡ arranged a xs = picked-from_taken a.source (size a) xs ys source_inside all taken in
      record { after = moved; places = placed; undone = ap (restored a) moved ∙ restored-arranged }

  -- a list that takes each element from its place is the one put back
  pub deinterleaved_from_taken : (ys : List T) → length ys ≡ size a → Taken a.place (size a) xs ys → Deinterleaved a xs ys
  unfolding restored
  deinterleaved_from_taken ys all taken =
      let back : ys ≡ restored a xs = picked-from_taken a.place (size a) xs ys place_inside all taken in
      record { after = back; places = taken; undone = ap (arranged a) back ∙ arranged-restored }

-- small numbers stay small in their places
pub arranged_below : (a : Arrangement) → Rearranges a → (xs : List ℕ) (b : ℕ) → length xs ≡ size a → ((k : ℕ) → get_or xs k 0 < b) → (k : ℕ) → get_or (arranged a xs) k 0 < b
unfolding arranged
arranged_below a law xs b many = picked_below a.source (size a) xs b (source_inside a law xs many)
