-- A run of neighbouring elements, moved to its places one element after the other.
use Rattle.std.proofs.Common.{◌≡◌, ℕ, ◌+◌, ◌-◌, ◌*◌, ◌<◌, ◌≤◌, ◌≢◌, List, length, get_or, set, sym, refl, ap, ◌∙◌, ⊎_elim, arith}
use Rattle.std.proofs.lemmas.List.{get_or-set_same, get_or-set_other, get_or_read}
use Rattle.std.proofs.lemmas.List.Edits.{get_or-between}
use Rattle.std.proofs.lemmas.Bool.{cases_lt}
use Rattle.std.specs.List.{between}
use Rattle.permutation.specs.Arrange.{Arrangement, size, Rearranges, Placed, Run, Moved, PlacedRun}
use Rattle.permutation.proofs.Rows.{element_below, row-length}

module _ {T : Type 0} (f : ℕ → ℕ) (s : ℕ) where
  -- one more element of a run at its place
  pub moved_more : (n : ℕ) (run ys zs : List T) (x : T) → ((k : ℕ) → k < n → f (s + k) ≢ f (s + n)) → f (s + n) < length zs → n < length run → x ≡ get_or run n x → Moved f s n run ys zs
      → Moved f s (n + 1) run ys (set zs (f (s + n)) x)
  moved_more n run ys zs x apart low inside read moved = record {
    there = λ k d h.
        ⊎_elim
        (λ l. get_or-set_other zs (f (s + n)) (f (s + k)) x d (apart k l) ∙ moved.there k d l)
        (λ l.
        let same : k ≡ n = omega arith in
        ap (λ i. get_or (set zs (f (s + n)) x) (f (s + i)) d) same ∙ get_or-set_same zs (f (s + n)) x d low ∙ get_or_read run n x inside read d ∙ ap (λ i. get_or run i d) (sym same)
        )
        (cases_lt k n);
    kept = λ j d away. get_or-set_other zs (f (s + n)) j x d (away n (omega arith)) ∙ moved.kept j d (λ k h. away k (omega arith));
  }

module _ (a : Arrangement) (law : Rearranges a) where
  -- two elements have two places
  pub places_apart : (i j : ℕ) → i < j → j < size a → a.place i ≢ a.place j
  places_apart i j below low same =
      let clash : i ≡ j = sym (law.source_place i (omega arith)) ∙ ap a.source same ∙ law.source_place j low in
      omega arith

  -- a run moved to its places is one run more of any list that it is taken from
  pub placed_run : {T : Type 0} (s : ℕ) (run ys zs : List T) → s + length run ≤ size a → Moved a.place s (length run) run ys zs → PlacedRun a.place s run ys zs
  placed_run s run ys zs inside moved = record {
    moved = moved;
    placed = λ xs part before i d h.
        ⊎_elim
        (λ l. moved.kept (a.place i) d (λ k m. places_apart i (s + k) (omega arith) (omega arith)) ∙ before i d l)
        (λ l.
        let at : s + (i - s) ≡ i = omega arith in
        ap (λ j. get_or zs (a.place j) d) (sym at) ∙ moved.there (i - s) d (omega arith) ∙ part (i - s) d (omega arith) ∙ ap (λ j. get_or xs j d) at
        )
        (cases_lt i s);
  }

module _ (a : Arrangement) (law : Rearranges a) {row place : ℕ} (column k : ℕ) (within : row < a.rows) (low : column + k < a.columns) (put : place ≡ a.place (row * a.columns + (column + k))) where
  -- the element is one of the list
  inside : row * a.columns + column + k < size a
  inside = omega (arith, element_below a refl within low)

  -- its place, counted from the run's start
  put_at : place ≡ a.place (row * a.columns + column + k)
  put_at = put ∙ ap a.place (omega arith)

  -- one more element of the row at its place
  pub moved_in_row : {T : Type 0} (run ys zs : List T) {x : T} → length zs ≡ size a → k < length run → x ≡ get_or run k x → Moved a.place (row * a.columns + column) k run ys zs
      → Moved a.place (row * a.columns + column) (k + 1) run ys (set zs place x)
  moved_in_row run ys zs {x} all some read moved =
      rw put_at (
      moved_more a.place (row * a.columns + column) k run ys zs x (λ i h. places_apart a law _ _ (omega arith) inside) (omega (arith, law.place_below (row * a.columns + column + k) inside)) some read moved
      )

module _ (a : Arrangement) {row columns : ℕ} (within : row < a.rows) (wide : columns ≡ a.columns) where
  -- a row moved to its places is one row more
  pub placed_row : {T : Type 0} (xs ys zs : List T) → length xs ≡ size a → PlacedRun a.place (row * a.columns + 0) (between (row * columns) ((row + 1) * columns) xs) ys zs → Placed a.place (row * a.columns) xs ys
      → Placed a.place ((row + 1) * a.columns) xs zs
  placed_row xs ys zs many put before i d h =
      let from : row * columns ≡ row * a.columns = ap (λ n. row * n) wide in
      let long : length (between (row * columns) ((row + 1) * columns) xs) ≡ columns = row-length a within wide xs many in
      let run : Run (row * a.columns + 0) (length (between (row * columns) ((row + 1) * columns) xs)) xs (between (row * columns) ((row + 1) * columns) xs) =
      λ k e l. get_or-between xs (row * columns) ((row + 1) * columns) k e (omega arith) ∙ ap (λ j. get_or xs j e) (omega arith)
      in
      put.placed xs run (λ j e l. before j e (omega arith)) i d (omega arith)
