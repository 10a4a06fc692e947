-- The elements of a list at given places: how many they are, and what they are.
use Rattle.std.proofs.Common.{◌≡◌, ℕ, zero, suc, ◌<◌, List, [], ◌∷◌, ◌++◌, length, get_or, take, sym, refl, ap, ◌∙◌, ⊎_elim, arith}
use Rattle.std.proofs.lemmas.List.{drop_more, length-append, length-take, length-drop, get_or_push, get_or_append_left, get_or_past, same_lists}
use Rattle.std.proofs.lemmas.Bool.{cases_lt}
use Rattle.permutation.specs.Arrange.{picked, Taken}

module _ {T : Type 0} (f : ℕ → ℕ) where
  -- as many elements as places
  pub length-picked : (n : ℕ) (xs : List T) → ((i : ℕ) → i < n → f i < length xs) → length (picked f n xs) ≡ n
  unfolding picked
  length-picked zero xs h = refl
  length-picked (suc n) xs h =
      let before : length (picked f n xs) ≡ n = length-picked n xs (λ i k. h i (omega arith)) in
      let last : f n < length xs = h n (omega arith) in
      simp (length-append, length-take, length-drop) (omega arith)

  -- one more place
  picked_more : (n : ℕ) (xs : List T) (d : T) → f n < length xs → picked f (suc n) xs ≡ picked f n xs ++ get_or xs (f n) d ∷ []
  unfolding picked
  picked_more n xs d h = ap (λ ys. picked f n xs ++ take 1 ys) (drop_more xs (f n) d h)

  -- element i is the one at place f i
  pub get_d_picked : (n : ℕ) (xs : List T) → ((i : ℕ) → i < n → f i < length xs) → Taken f n xs (picked f n xs)
  get_d_picked zero xs h i d k = absurd (omega arith)
  get_d_picked (suc n) xs h i d k =
      let below : (j : ℕ) → j < n → f j < length xs = λ j l. h j (omega arith) in
      let many : length (picked f n xs) ≡ n = length-picked n xs below in
      ap (λ ys. get_or ys i d) (picked_more n xs d (h n (omega arith)))
      ∙ ⊎_elim
      (λ l. get_or_append_left (picked f n xs) _ d i (omega arith) ∙ get_d_picked n xs below i d l)
      (λ l.
      let same : i ≡ n = omega arith in
      get_or_push (picked f n xs) (get_or xs (f n) d) d i (many ∙ sym same) ∙ ap (λ j. get_or xs (f j) d) (sym same)
      )
      (cases_lt i n)

  -- the elements of a list and their number make it the picked one
  pub picked-from_taken : (n : ℕ) (xs ys : List T) → ((i : ℕ) → i < n → f i < length xs) → length ys ≡ n → Taken f n xs ys → ys ≡ picked f n xs
  picked-from_taken n xs ys h many taken =
      same_lists ys (picked f n xs) (many ∙ sym (length-picked n xs h))
      (λ i d k.
      let l : i < n = omega arith in
      taken i d l ∙ sym (get_d_picked n xs h i d l)
      )

-- what is picked from small numbers is small
pub picked_below : (f : ℕ → ℕ) (n : ℕ) (xs : List ℕ) (b : ℕ) → ((i : ℕ) → i < n → f i < length xs) → ((k : ℕ) → get_or xs k 0 < b) → (k : ℕ) → get_or (picked f n xs) k 0 < b
picked_below f n xs b h small k =
    ⊎_elim
    (λ l. omega (arith, get_d_picked f n xs h k 0 l, small (f k)))
    (λ l. omega (arith, get_or_past (picked f n xs) k 0 (omega (arith, length-picked f n xs h)), get_or_past xs (length xs) 0 (omega arith), small (length xs)))
    (cases_lt k n)
