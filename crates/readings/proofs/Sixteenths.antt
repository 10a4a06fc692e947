-- The soft reading of a sample lies nearest to its sixteenth.
use Rattle.std.proofs.Common.{◌≡◌, ℕ, suc, ◌+◌, ◌*◌, ◌/◌, ◌%◌, ◌<◌, ◌≤◌, min, true, false, ℤ, pos, negsuc, ◌-ℤ◌, ◌*ℤ◌, nat_abs, refl, ap, ◌∙◌, arith, w8, to_z, of_z, ltb-true}
use lib.Signed.{lt_z}
use Rattle.std.proofs.lemmas.Int.{ints}
use Rattle.readings.specs.Samples.{sixteenth, soft_of, Sampled}

-- a sixteenth is at most 127
sixteenth-low : (n : ℕ) → sixteenth n ≤ 127
unfolding sixteenth
sixteenth-low n = omega arith

-- where it is not held, a sixteenth is at most a half too large, and less than a half too small
sixteenth_near : (n : ℕ) → n < 2040 → (16 * sixteenth n ≤ n + 8) × (n ≤ 16 * sixteenth n + 7)
unfolding sixteenth
sixteenth_near n h = (omega arith, omega arith)

-- a half is rounded up
sixteenth_half : (n : ℕ) → n < 2040 → n % 16 ≡ 8 → 16 * sixteenth n ≡ n + 8
unfolding sixteenth
sixteenth_half n h e = omega arith

-- the size of a soft reading is the sixteenth of the sample's
size_of : (x : ℤ) → nat_abs (soft_of x) ≡ sixteenth (nat_abs x)
unfolding soft_of
size_of (pos n) = refl
size_of (negsuc n) = omega (arith, ints)

-- a soft reading lies as near to its sample as the sizes do
near_of : (x : ℤ) → 16 * sixteenth (nat_abs x) ≤ nat_abs x + 8 → nat_abs x ≤ 16 * sixteenth (nat_abs x) + 7 → nat_abs (pos 16 *ℤ soft_of x -ℤ x) ≤ 8
unfolding soft_of
near_of (pos n) h k = omega (arith, ints)
near_of (negsuc n) h k = omega (arith, ints)

-- the soft reading of a sample, in the words of its rule
pub sampled : (x r : ℤ) → r ≡ soft_of x → Sampled x r
sampled x r e = record {
  value = e;
  held = omega (arith, ap nat_abs e, size_of x, sixteenth-low (nat_abs x));
  near = λ h. rw e (near_of x (sixteenth_near (nat_abs x) h).0 (sixteenth_near (nat_abs x) h).1);
  farther = λ h f. ap (λ z. 16 * nat_abs z) e ∙ ap (λ n. 16 * n) (size_of x) ∙ sixteenth_half (nat_abs x) h f;
}

-- the size that the code finds is the sixteenth of the sample's
sixteenth_is : (x : ℤ) {size n : ℕ} → n ≡ nat_abs x → size ≡ min ((n + 8) / 16) 127 → size ≡ sixteenth (nat_abs x)
unfolding sixteenth
sixteenth_is x e f = f ∙ ap (λ n. min ((n + 8) / 16) 127) e

-- below zero the reading is the sixteenth with a minus
pub below_zero : (x : ℤ) {size n : ℕ} → n ≡ nat_abs x → size ≡ min ((n + 8) / 16) 127 → lt_z x (pos 0) ≡ true → to_z w8 (of_z w8 (pos 0 -ℤ to_z w8 size)) ≡ soft_of x
unfolding soft_of
below_zero (pos n) e f t = absurd (omega (arith, ltb-true))
below_zero (negsuc n) e f t = let low : sixteenth (suc n) ≤ 127 = sixteenth-low (suc n) in let same = sixteenth_is (negsuc n) e f in omega (arith, ints)

-- else it is the sixteenth
pub from_zero : (x : ℤ) {size n : ℕ} → n ≡ nat_abs x → size ≡ min ((n + 8) / 16) 127 → lt_z x (pos 0) ≡ false → to_z w8 size ≡ soft_of x
unfolding soft_of
from_zero (pos n) e f t = let low : sixteenth n ≤ 127 = sixteenth-low n in let same = sixteenth_is (pos n) e f in omega (arith, ints)
from_zero (negsuc n) e f t = let z : ◌≡◌ {A = ℕ} 0 1 = cc in absurd (omega arith)
