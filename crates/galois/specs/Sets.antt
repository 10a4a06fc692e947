-- Sets of bytes as numbers: byte b is in the set if bit b is set.
use Rattle.std.specs.Prelude.{◌≡◌, ℕ, zero, suc, ◌+◌, ◌-◌, ◌*◌, ◌/◌, ◌%◌, ◌^◌, ◌<◌, ◌≤◌, ◌⊎◌, bit_or}
use Rattle.std.proofs.Common.{sym, ap, ◌∙◌, inl, inr, one-mul, pow-suc, arith, pow_pos, pow-add, shr-shr}
use Rattle.std.proofs.Math.Nat.{div-eq_of_lt}
use Rattle.std.proofs.lemmas.Nat.{or_shr, or_mod, shl-shr}
use Rattle.std.proofs.Math.Pow.{pow-lt, ones_split, ones_lt, high}
use Rattle.std.proofs.lemmas.Bool.{cases_order}
use Rattle.galois.specs.Polynomials.{times_z}
use Rattle.galois.specs.Shifts.{bit_cases, shifted, shifted_swap}

-- bit b of a set
unfoldable pub has : ℕ → ℕ → ℕ
has s b = s / 2 ^ b % 2

has_or : (s t b : ℕ) → has (bit_or s t) b ≡ bit_or (has s b) (has t b)
unfolding has
has_or s t b = ap (λ n. n % 2) (or_shr s t b) ∙ or_mod (s / 2 ^ b) (t / 2 ^ b) 1

has_same : (b : ℕ) → has (2 ^ b) b ≡ 1
unfolding has
has_same b = ap (λ n. n % 2) (ap (λ n. n / 2 ^ b) (sym (one-mul (2 ^ b))) ∙ shl-shr 1 b)

has_only : (a b : ℕ) → has (2 ^ a) b ≡ 1 → a ≡ b
unfolding has
has_only a b e = go (cases_order a b)
  where
    go : (a ≡ b) ⊎ ((a < b) ⊎ (b < a)) → a ≡ b
    go (inl d) = d
    go (inr (inl l)) = absurd (let none : 2 ^ a / 2 ^ b ≡ 0 = div-eq_of_lt (pow-lt l) in omega arith)
    go (inr (inr l)) =
        let d = a - suc b in
        let sum : d + 1 + b ≡ a = omega arith in
        let whole : 2 ^ a / 2 ^ b ≡ 2 ^ d * 2
        = ap (λ n. n / 2 ^ b) (ap (λ n. 2 ^ n) (sym sum) ∙ pow-add 2 (d + 1) b) ∙ shl-shr (2 ^ (d + 1)) b ∙ pow-add 2 d 1 in
        absurd (omega arith)

or_cases : (x y : ℕ) → x < 2 → y < 2 → bit_or x y ≡ 1 → (x ≡ 1) ⊎ (y ≡ 1)
or_cases x y hx hy e = go (bit_cases x hx)
  where
    go : (x ≡ 0) ⊎ (x ≡ 1) → (x ≡ 1) ⊎ (y ≡ 1)
    go (inl d) = inr (rw d at e)
    go (inr d) = inl d

or_one : (x y : ℕ) → x < 2 → y < 2 → (x ≡ 1) ⊎ (y ≡ 1) → bit_or x y ≡ 1
or_one x y hx hy w = go (bit_cases x hx) (bit_cases y hy) w
  where
    go : (x ≡ 0) ⊎ (x ≡ 1) → (y ≡ 0) ⊎ (y ≡ 1) → (x ≡ 1) ⊎ (y ≡ 1) → bit_or x y ≡ 1
    go (inl d) (inl e) (inl k) = absurd (omega arith)
    go (inl d) (inl e) (inr k) = absurd (omega arith)
    go (inl d) (inr e) k = rw (d, e)
    go (inr d) (inl e) k = rw (d, e)
    go (inr d) (inr e) k = rw (d, e)

has-bit : (s b : ℕ) → has s b < 2
unfolding has
has-bit s b = omega arith

-- the set of the n bytes a, a z, a z^2 and so on
unfoldable pub orbit : ℕ → ℕ → ℕ → ℕ
orbit p zero a = 0
orbit p (suc n) a = bit_or (2 ^ a) (orbit p n (times_z p a))

pub orbit_holds : (p k n a : ℕ) → k < n → has (orbit p n a) (shifted p k a) ≡ 1
unfolding orbit shifted
orbit_holds p k zero a h = absurd (omega arith)
orbit_holds p zero (suc n) a h =
    has_or (2 ^ a) (orbit p n (times_z p a)) a
    ∙ or_one (has (2 ^ a) a) (has (orbit p n (times_z p a)) a) (has-bit (2 ^ a) a) (has-bit (orbit p n (times_z p a)) a) (inl (has_same a))
orbit_holds p (suc k) (suc n) a h =
    let rest = orbit p n (times_z p a) in
    let b = times_z p (shifted p k a) in
    let later : has rest b ≡ 1 = ap (has rest) (shifted_swap p 1 k a) ∙ orbit_holds p k n (times_z p a) (omega arith) in
    has_or (2 ^ a) rest b ∙ or_one (has (2 ^ a) b) (has rest b) (has-bit (2 ^ a) b) (has-bit rest b) (inr later)

pub orbit_only : (p n a b : ℕ) → has (orbit p n a) b ≡ 1 → (k : ℕ) × (k < n) × (shifted p k a ≡ b)
unfolding orbit shifted has
orbit_only p zero a b e = let none : 0 / 2 ^ b ≡ 0 = div-eq_of_lt (pow_pos b) in absurd (omega arith)
orbit_only p (suc n) a b e =
    go (orbit_only p n (times_z p a) b)
    (or_cases (has (2 ^ a) b) (has (orbit p n (times_z p a)) b) (has-bit (2 ^ a) b) (has-bit (orbit p n (times_z p a)) b)
    (sym (has_or (2 ^ a) (orbit p n (times_z p a)) b) ∙ e))
  where
    go : (has (orbit p n (times_z p a)) b ≡ 1 → (k : ℕ) × (k < n) × (shifted p k (times_z p a) ≡ b))
        → (has (2 ^ a) b ≡ 1) ⊎ (has (orbit p n (times_z p a)) b ≡ 1) → (k : ℕ) × (k < suc n) × (shifted p k a ≡ b)
    go r (inl d) = (0, omega arith, has_only a b d)
    go r (inr d) = let (k, h, q) = r d in (suc k, omega arith, shifted_swap p 1 k a ∙ q)

-- the set of the bytes from 2 up
pub has-from_two : (b : ℕ) → 2 ≤ b → b < 256 → has (2 ^ 256 - 4) b ≡ 1
unfolding has
has-from_two b l h =
    let c = b - 2 in
    let j = 253 - c in
    let places : 2 + c ≡ b = omega arith in
    let all : suc j + c ≡ 254 = omega arith in
    let ones : (2 ^ 254 - 1) / 2 ^ c ≡ 2 ^ suc j - 1
    = ap (λ n. n / 2 ^ c) (ap (λ k. 2 ^ k - 1) (sym all) ∙ ones_split (suc j) c) ∙ high (2 ^ suc j - 1) c (ones_lt c) in
    let odd : (2 ^ suc j - 1) % 2 ≡ 1 = omega (arith, pow-suc 2 j, pow_pos j) in
    ap (λ k. (2 ^ 256 - 4) / 2 ^ k % 2) (sym places) ∙ ap (λ n. n % 2) (sym (shr-shr (2 ^ 256 - 4) 2 c) ∙ ones) ∙ odd
