-- Marks and readings at the places of the helical rule.
use Rattle.std.proofs.Common.{◌≡◌, ℕ, ◌+◌, ◌*◌, ◌<◌, ◌≤◌, ◌≢◌, List, [], ◌∷◌, ◌++◌, length, get_or, take, set, replicate, sym, refl, ap, ◌∙◌, inl, inr, arith}
use Rattle.std.proofs.lemmas.List.{append_assoc, length-append, length-set, length-take-le, length-replicate, get_or-set_same, get_or-set_other, get_or-replicate, take_more}
use Rattle.std.proofs.lemmas.Bool.{cases_eq}
use Rattle.permutation.specs.Arrange.{Arrangement, size, Rearranges, Placed, arranged, restored}
use Rattle.permutation.proofs.Picking.{get_d_picked}
use Rattle.permutation.proofs.Permuting.{length-arranged, length-restored, interleaved_from_placed}
use Rattle.readings.specs.Helix.{helix, wound}
use Rattle.readings.specs.Winding.{helix_rearranges}
use Rattle.stack.specs.Buffers.{zeros, padded}
use Rattle.stack.specs.Bodies.{length-padded, set-padded}
use Rattle.line.specs.Line.{prices, spread}
use Rattle.line.specs.Costing.{price-at}

module _ (h : Arrangement) (law : Rearranges h) (xs : List ℕ) (long : length xs ≡ size h) where
  at_place : (j d : ℕ) → j < size h → get_or (arranged h xs) (h.place j) d ≡ get_or xs j d
  unfolding arranged
  at_place j d l =
      get_d_picked h.source (size h) xs (λ i k. omega (arith, law.source_below i k)) (h.place j) d (law.place_below j l) ∙ ap (λ i. get_or xs i d) (law.source_place j l)

  -- a write at the place of an element writes the element
  set-arranged : (i v : ℕ) → i < size h → set (arranged h xs) (h.place i) v ≡ arranged h (set xs i v)
  set-arranged i v l =
      (interleaved_from_placed h law (set xs i v) (length-set xs i v ∙ long) (set (arranged h xs) (h.place i) v) (length-set (arranged h xs) (h.place i) v ∙ length-arranged h law xs long) placed).after
    where
      placed : Placed h.place (size h) (set xs i v) (set (arranged h xs) (h.place i) v)
      placed j d k = elim (cases_eq j i) [
        | inl e ↦
            ap (λ n. get_or (set (arranged h xs) (h.place i) v) (h.place n) d) e
            ∙ get_or-set_same (arranged h xs) (h.place i) v d (omega (arith, length-arranged h law xs long, law.place_below i l))
            ∙ sym (ap (λ n. get_or (set xs i v) n d) e ∙ get_or-set_same xs i v d (omega arith))
        | inr ne ↦
            let apart : h.place j ≢ h.place i = λ e. ne (sym (law.source_place j k) ∙ ap h.source e ∙ law.source_place i l) in
            get_or-set_other (arranged h xs) (h.place i) (h.place j) v d apart ∙ at_place j d k ∙ sym (get_or-set_other xs i j v d ne)
      ]

module _ (a b : ℕ) (tall : 1 ≤ a) (wide : 1 ≤ b) where
  law : Rearranges (helix a b)
  law = helix_rearranges a b tall wide

  -- no marks are a block of zeros
  pub spread_none : zeros (a * b) ≡ spread a b []
  unfolding spread
  spread_none =
      let none : padded (a * b) [] ≡ zeros (a * b) = ap (λ n. replicate n 0) (omega arith) in
      (interleaved_from_placed (helix a b) law (padded (a * b) []) (ap length none ∙ length-replicate (a * b) 0) (zeros (a * b)) (length-replicate (a * b) 0)
      (λ i d k. get_or-replicate (a * b) (wound a b i) 0 d (law.place_below i k) ∙ sym (ap (λ xs. get_or xs i d) none ∙ get_or-replicate (a * b) i 0 d k))).after

  spread_push : (ms : List ℕ) (v : ℕ) → length ms < a * b → set (spread a b ms) (wound a b (length ms)) v ≡ spread a b (ms ++ v ∷ [])
  unfolding spread
  spread_push ms v h =
      set-arranged (helix a b) law (padded (a * b) ms) (length-padded (a * b) ms (omega arith)) (length ms) v h ∙ ap (arranged (helix a b)) (set-padded (length ms) (a * b) v ms refl h)

  -- one mark more
  pub spread_more : (ms xs ys : List ℕ) (at k p : ℕ) → length ms ≡ at → at + length xs ≤ a * b → k < length xs → p ≡ wound a b (at + k) → ys ≡ spread a b (ms ++ take k xs)
      → set ys p (get_or xs k 0) ≡ spread a b (ms ++ take (k + 1) xs)
  spread_more ms xs ys at k p l room h e s =
      let n : length (ms ++ take k xs) ≡ at + k = length-append ms (take k xs) ∙ omega (arith, length-take-le k xs (omega arith)) in
      let next : (ms ++ take k xs) ++ get_or xs k 0 ∷ [] ≡ ms ++ take (k + 1) xs = append_assoc ms (take k xs) (get_or xs k 0 ∷ []) ∙ ap (λ (z : List ℕ). ms ++ z) (sym (take_more xs k 0 h)) in
      (λ i. set (s i) (e i) (get_or xs k 0)) ∙ ap (λ q. set (spread a b (ms ++ take k xs)) (wound a b q) (get_or xs k 0)) (sym n)
      ∙ spread_push (ms ++ take k xs) (get_or xs k 0) (omega arith) ∙ ap (spread a b) next

  -- the price of a mark is what the reading at its place costs
  pub price_spot : {R : Type 0} (cost : R → ℕ → ℕ) (rs : List R) (i p m : ℕ) (x : R) → length rs ≡ a * b → i < a * b → p ≡ wound a b i → x ≡ get_or rs p x → cost x m ≡ prices cost a b rs i m
  unfolding restored
  price_spot cost rs i p m x l h e is =
      let inside : (j : ℕ) → j < a * b → wound a b j < length rs = λ j k. omega (arith, law.place_below j k) in
      ap (λ r. cost r m) (is ∙ ap (λ q. get_or rs q x) e ∙ sym (get_d_picked (wound a b) (a * b) rs inside i x h))
      ∙ sym (price-at cost (restored (helix a b) rs) i m x (omega (arith, length-restored (helix a b) law rs l)))
