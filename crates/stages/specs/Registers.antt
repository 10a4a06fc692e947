-- A number that holds a register: its bits, and eight steps at once.
use Rattle.std.specs.Prelude.{◌≡◌, ℕ, zero, suc, ◌+◌, ◌*◌, ◌/◌, ◌%◌, ◌^◌, ◌<◌, Bool, true, false, List, [], ◌∷◌, ◌++◌, map, length, take, drop, ◌==◌, bit_and, bit_or, bit_xor, slice_index_or, refl}
use Rattle.std.proofs.Common.{sym, ap₂, subst, ◌∙◌, append_assoc, append-nil, add-suc, add-zero, suc-add, div-one, pow-suc, add-one, one-add, arith, length-take}
use Rattle.std.proofs.Math.Path.{ap}
use Rattle.std.proofs.Math.Bool.{xor}
use Rattle.std.proofs.Math.Nat.{zero-div, zero-mod, mod-one}
use Rattle.std.specs.Int.Bits.{differ, xor_step, xor_zero_r}
use Rattle.std.specs.List.{range_with_len}
use Rattle.std.specs.Int.{reverse_bits_onto}
use Rattle.std.proofs.lemmas.Nat.{and_mask, mod-pow-add, or_shifted, shr-shr}
use Rattle.std.proofs.lemmas.List.FromFn.{fill_by_all}
use Rattle.std.proofs.lemmas.Bool.Decides.{nat_tests}
use Rattle.stages.specs.Sequence.{Holds, after, bit, byte_of, continued, feedback, held, last_bits, lowest_bits, loaded, stepped, sums}

bit_lt : (b : Bool) → bit b < 2
bit_lt true = omega arith
bit_lt false = omega arith

half_held : (b : Bool) (reg : List Bool) → held (b ∷ reg) / 2 ≡ held reg
unfolding held
half_held b reg = omega (arith, bit_lt b)

odd_held : (b : Bool) (reg : List Bool) → held (b ∷ reg) % 2 ≡ bit b
unfolding held
odd_held b reg = omega (arith, bit_lt b)

held_lt : (reg : List Bool) → held reg < 2 ^ length reg
unfolding held
held_lt [] = omega arith
held_lt (b ∷ reg) = omega (arith, bit_lt b, held_lt reg, pow-suc 2 (length reg))

-- without its k lowest bits
held-drop : (k : ℕ) (reg : List Bool) → held reg / 2 ^ k ≡ held (drop k reg)
unfolding held
held-drop zero reg = div-one (held reg)
held-drop (suc k) [] = zero-div (2 ^ suc k)
held-drop (suc k) (b ∷ reg) = ap (λ n. held (b ∷ reg) / 2 ^ n) (sym (one-add k)) ∙ sym (shr-shr (held (b ∷ reg)) 1 k) ∙ ap (λ n. n / 2 ^ k) (half_held b reg) ∙ held-drop k reg

-- its k lowest bits
held-take : (k : ℕ) (reg : List Bool) → held reg % 2 ^ k ≡ held (take k reg)
unfolding held
held-take zero reg = mod-one (held reg)
held-take (suc k) [] = zero-mod (2 ^ suc k)
held-take (suc k) (b ∷ reg) =
    ap (λ n. held (b ∷ reg) % 2 ^ n) (sym (add-one k)) ∙ mod-pow-add (held (b ∷ reg)) k 1
    ∙ ap₂ (λ h l. h * 2 + l) (ap (λ n. n % 2 ^ k) (half_held b reg) ∙ held-take k reg) (odd_held b reg) ∙ (omega arith)

-- two rows of bits added place by place
added : List Bool → List Bool → List Bool
added [] ys = ys
added (x ∷ xs) [] = x ∷ xs
added (x ∷ xs) (y ∷ ys) = xor x y ∷ added xs ys

differ-bits : (x y : Bool) → differ (bit x) (bit y) ≡ bit (xor x y)
unfolding xor
differ-bits true true = refl
differ-bits true false = refl
differ-bits false true = refl
differ-bits false false = refl

xor_held : (xs ys : List Bool) → bit_xor (held xs) (held ys) ≡ held (added xs ys)
unfolding added held
xor_held [] ys = refl
xor_held (x ∷ xs) [] = xor_zero_r (held (x ∷ xs))
xor_held (x ∷ xs) (y ∷ ys) =
    xor_step (held (x ∷ xs)) (held (y ∷ ys))
    ∙ ap₂ (λ h l. h * 2 + l) (ap₂ bit_xor (half_held x xs) (half_held y ys) ∙ xor_held xs ys) (ap₂ differ (odd_held x xs) (odd_held y ys) ∙ differ-bits x y)
    ∙ (omega arith)

-- a row of fifteen bits, each by its place
fifteen : (ℕ → Bool) → List Bool
fifteen f = map f (range_with_len 0 15)

by_place : (P : List Bool → Type 0) (reg : List Bool) → length reg ≡ 15 → ((f : ℕ → Bool) → P (fifteen f)) → P reg
unfolding fifteen
by_place P reg h each = subst P (sym (fill_by_all at reg 15 false h (λ k l. refl))) (each at)
  where
    at : ℕ → Bool
    at k = slice_index_or reg k false

-- the register added to itself one place on has the eight sums beside one another
sums_beside : (reg : List Bool) → length reg ≡ 15 → held (take 8 (drop 7 (added (false ∷ reg) reg))) ≡ byte_of (sums 8 reg)
unfolding fifteen added held byte_of continued sums stepped feedback
sums_beside reg h = by_place (λ r. held (take 8 (drop 7 (added (false ∷ r) r))) ≡ byte_of (sums 8 r)) reg h (λ f. refl)

-- after eight steps their sums fill the first eight stages
sums_first : (reg : List Bool) → length reg ≡ 15 → held (take 8 (after 8 reg)) ≡ byte_of (sums 8 reg)
unfolding fifteen held byte_of continued after sums stepped feedback
sums_first reg h = by_place (λ r. held (take 8 (after 8 r)) ≡ byte_of (sums 8 r)) reg h (λ f. refl)

-- and the first seven stages stand behind them
stages_moved : (reg : List Bool) → length reg ≡ 15 → drop 8 (after 8 reg) ≡ take 7 reg
unfolding fifteen after stepped
stages_moved reg h = by_place (λ r. drop 8 (after 8 r) ≡ take 7 r) reg h (λ f. refl)

-- a number with bits written behind it
continued_lt : (bits : List Bool) (k v : ℕ) → v < 2 ^ k → continued v bits < 2 ^ (k + length bits)
unfolding continued
continued_lt [] k v h = rw add-zero h
continued_lt (b ∷ bits) k v h =
    rw (add-suc k (length bits), ← suc-add k (length bits)) (continued_lt bits (suc k) (2 * v + bit b) (omega (arith, bit_lt b, pow-suc 2 k)))

length-sums : (n : ℕ) (reg : List Bool) → length (sums n reg) ≡ n
unfolding sums
length-sums zero reg = refl
length-sums (suc n) reg = ap suc (length-sums n (stepped reg))

pub sums_lt : (reg : List Bool) → byte_of (sums 8 reg) < 256
unfolding byte_of
sums_lt reg = subst (λ n. byte_of (sums 8 reg) < 2 ^ (0 + n)) (length-sums 8 reg) (continued_lt (sums 8 reg) 0 0 (omega arith))

length-after : (n : ℕ) (reg : List Bool) → length reg ≡ 15 → length (after n reg) ≡ 15
unfolding after stepped
length-after zero reg h = h
length-after (suc n) reg h = length-after n (stepped reg) (ap suc (length-take 14 reg ∙ (omega arith)))

-- the first k bits of a number turned round, and one more
reversed_last : (k x v : ℕ) → reverse_bits_onto (suc k) x v ≡ reverse_bits_onto k x v * 2 + x / 2 ^ k % 2
unfolding reverse_bits_onto
reversed_last zero x v = rw (div-one x)
reversed_last (suc k) x v =
    reversed_last k (x / 2) (v * 2 + x % 2)
    ∙ ap (λ n. reverse_bits_onto k (x / 2) (v * 2 + x % 2) * 2 + n % 2) (shr-shr x 1 k ∙ ap (λ n. x / 2 ^ n) (one-add k))

bit_odd : (x : ℕ) → bit (x % 2 == 1) ≡ x % 2
bit_odd x = grind (arith, nat_tests)

held-bits : (k x : ℕ) (reg : List Bool) → held (last_bits k x ++ reg) ≡ reverse_bits_onto k x (held reg)
unfolding held last_bits reverse_bits_onto
held-bits zero x reg = refl
held-bits (suc k) x reg =
    ap held (append_assoc (last_bits k (x / 2)) ((x % 2 == 1) ∷ []) reg) ∙ held-bits k (x / 2) ((x % 2 == 1) ∷ reg)
    ∙ ap (λ v. reverse_bits_onto k (x / 2) v) (ap (λ v. 2 * held reg + v) (bit_odd x) ∙ (omega arith))

pub loaded_holds : (seed : ℕ) → Holds (reverse_bits_onto 16 seed 0 / 2) (loaded seed)
unfolding held last_bits loaded
loaded_holds seed = record {
  number =
      (omega (arith, reversed_last 15 seed 0)) ∙ sym (held-bits 15 seed []) ∙ ap held (append-nil (last_bits 15 seed));
  stages = refl;
}

module _ {y : ℕ} {reg : List Bool} (h : Holds y reg) where
  held_below : y < 32768
  held_below = rw h.number (subst (λ n. held reg < 2 ^ n) h.stages (held_lt reg))

  pub key_is_sums : bit_and (bit_xor (y * 2 % 65536) y / 128) 255 ≡ byte_of (sums 8 reg)
  unfolding held
  key_is_sums =
      let row = added (false ∷ reg) reg in
      let doubled : y * 2 % 65536 ≡ held (false ∷ reg) = omega (arith, held_below, h.number) in
      and_mask (bit_xor (y * 2 % 65536) y / 128) 8
      ∙ ap (λ n. n / 128 % 256) (ap₂ bit_xor doubled h.number ∙ xor_held (false ∷ reg) reg)
      ∙ ap (λ n. n % 256) (held-drop 7 row) ∙ held-take 8 (drop 7 row) ∙ sums_beside reg h.stages

  pub advanced_holds : {k : ℕ} → k ≡ byte_of (sums 8 reg) → Holds (bit_or (bit_and y 127 * 256 % 65536) k) (after 8 reg)
  advanced_holds {k} e =
      let small : k < 256 = omega (arith, sums_lt reg) in
      let low : bit_and y 127 ≡ y % 128 = and_mask y 7 in
      let high : bit_and y 127 * 256 % 65536 ≡ y % 128 * 256 = omega arith in
      let moved : held (after 8 reg) / 256 ≡ y % 128 =
      held-drop 8 (after 8 reg) ∙ ap held (stages_moved reg h.stages) ∙ sym (ap (λ n. n % 128) h.number ∙ held-take 7 reg) in
      let sum : held (after 8 reg) % 256 ≡ k = held-take 8 (after 8 reg) ∙ sums_first reg h.stages ∙ sym e in
      record {
        number = ap (λ n. bit_or n k) high ∙ or_shifted (y % 128) 8 k small ∙ (omega arith);
        stages = length-after 8 reg h.stages;
      }

-- the lowest bits of a number hold it
held-lowest : (n x : ℕ) → x < 2 ^ n → held (lowest_bits n x) ≡ x
unfolding held lowest_bits
held-lowest zero x h = omega arith
held-lowest (suc n) x h = omega (arith, held-lowest n (x / 2) (omega (arith, pow-suc 2 n)), bit_odd x)

pub held_back : {y : ℕ} → y < 32768 → held (lowest_bits 15 y) ≡ y
held_back {y} h = held-lowest 15 y h

length-lowest : (n x : ℕ) → length (lowest_bits n x) ≡ n
unfolding lowest_bits
length-lowest zero x = refl
length-lowest (suc n) x = ap suc (length-lowest n (x / 2))

bit_is : (b : Bool) → (bit b == 1) ≡ b
bit_is true = refl
bit_is false = refl

-- and what a number holds are its lowest bits
lowest-held : (reg : List Bool) → lowest_bits (length reg) (held reg) ≡ reg
unfolding lowest_bits
lowest-held [] = refl
lowest-held (b ∷ reg) = ap₂ ◌∷◌ (ap (λ n. n == 1) (odd_held b reg) ∙ bit_is b) (ap (lowest_bits (length reg)) (half_held b reg) ∙ lowest-held reg)

pub held_lowest : {y : ℕ} → y < 32768 → Holds y (lowest_bits 15 y)
held_lowest {y} h = record { number = sym (held_back h); stages = length-lowest 15 y }

pub lowest_held : {y : ℕ} {reg : List Bool} → Holds y reg → lowest_bits 15 y ≡ reg
lowest_held {y} {reg} h = ap (lowest_bits 15) h.number ∙ ap (λ n. lowest_bits n (held reg)) (sym h.stages) ∙ lowest-held reg
