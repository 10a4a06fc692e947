-- The helical rule permutes its places.
use Rattle.std.specs.Prelude.{◌≡◌, ℕ, ◌+◌, ◌-◌, ◌*◌, ◌/◌, ◌%◌, ◌<◌, ◌≤◌}
use Rattle.std.proofs.Common.{sym, ◌∙◌, arith, mul_comm, mod-eq_of_lt}
use Rattle.std.proofs.Math.Path.{ap}
use Rattle.std.proofs.Math.Nat.{mod-add-mod, add-mod-mod, add-mul-mod_self_right}
use Rattle.std.proofs.lemmas.Nat.{div-add-mod', div-mul-add, mod-mul-add, mul-add-lt, div_below, mod_below}
use Rattle.permutation.specs.Arrange.{Rearranges}
use Rattle.readings.specs.Helix.{wound, unwound, helix}

-- a whole number of turns changes no row: n (a - 1) and n more
turns : (a n r : ℕ) → r < a → (r + n * (a - 1) + n) % a ≡ r
turns a n r h =
    let next : a - 1 + 1 ≡ a = omega arith in
    let more : r + n * (a - 1) + n ≡ r + n * (a - 1 + 1) = omega arith in
    let whole : r + n * (a - 1) + n ≡ r + n * a = more ∙ ap (λ k. r + n * k) next in
    ap (λ k. k % a) whole ∙ add-mul-mod_self_right r n a ∙ mod-eq_of_lt h

-- turning down by n and back gives the row again
down_up : (a n r : ℕ) → r < a → ((n + r) % a + n * (a - 1)) % a ≡ r
down_up a n r h = mod-add-mod (n + r) a (n * (a - 1)) ∙ ap (λ k. k % a) (omega arith) ∙ turns a n r h

-- turning back by n and down gives the row again
up_down : (a n r : ℕ) → r < a → (n + (r + n * (a - 1)) % a) % a ≡ r
up_down a n r h = add-mod-mod n (r + n * (a - 1)) a ∙ ap (λ k. k % a) (omega arith) ∙ turns a n r h

-- the place of the element in a row and a column
pub wound-at : (a b row column : ℕ) → column < b → wound a b (row * b + column) ≡ b * ((3 * column + row) % a) + column
unfolding wound
wound-at a b row column h = λ t. b * ((3 * mod-mul-add row b column h t + div-mul-add row b column h t) % a) + mod-mul-add row b column h t

-- the element at a place
unwound-at : (a b row column : ℕ) → column < b → unwound a b (b * row + column) ≡ (row + 3 * column * (a - 1)) % a * b + column
unfolding unwound
unwound-at a b row column h =
    ap (λ k. unwound a b (k + column)) (mul_comm b row) ∙ (λ t. (div-mul-add row b column h t + 3 * mod-mul-add row b column h t * (a - 1)) % a * b + mod-mul-add row b column h t)

module _ (a b : ℕ) (tall : 1 ≤ a) (wide : 1 ≤ b) where
  -- the place of an element is among the places
  wound_below : (i : ℕ) → wound a b i < a * b
  unfolding wound
  wound_below i = omega (arith, mul-add-lt ((3 * (i % b) + i / b) % a) b (i % b) a (mod_below _ a tall) (mod_below i b wide))

  -- the element at a place is among the elements
  unwound_below : (j : ℕ) → unwound a b j < a * b
  unfolding unwound
  unwound_below j = omega (arith, mul-add-lt ((j / b + 3 * (j % b) * (a - 1)) % a) b (j % b) a (mod_below _ a tall) (mod_below j b wide))

  -- the element at the place of an element is that element
  unwound-wound : (i : ℕ) → i < a * b → unwound a b (wound a b i) ≡ i
  unwound-wound i h =
      let row : i / b < a = div_below i b a wide h in
      let column : i % b < b = mod_below i b wide in
      ap (λ k. unwound a b (wound a b k)) (sym (div-add-mod' i b))
      ∙ ap (unwound a b) (wound-at a b (i / b) (i % b) column)
      ∙ unwound-at a b _ (i % b) column
      ∙ ap (λ r. r * b + i % b) (down_up a (3 * (i % b)) (i / b) row)
      ∙ div-add-mod' i b

  -- the place of the element at a place is that place
  wound-unwound : (j : ℕ) → j < a * b → wound a b (unwound a b j) ≡ j
  unfolding unwound
  wound-unwound j h =
      let row : j / b < a = div_below j b a wide h in
      wound-at a b _ (j % b) (mod_below j b wide) ∙ ap (λ r. b * r + j % b) (up_down a (3 * (j % b)) (j / b) row) ∙ ap (λ k. k + j % b) (mul_comm b (j / b)) ∙ div-add-mod' j b

  -- the law of the helical rule
  pub helix_rearranges : Rearranges (helix a b)
  helix_rearranges = record {
    place_below = λ i k. wound_below i;
    source_below = λ j k. unwound_below j;
    source_place = unwound-wound;
    place_source = wound-unwound;
  }
