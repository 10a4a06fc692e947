-- Times z again and again, modulo a polynomial: linear, and the product of bytes in another form.
use Rattle.std.specs.Prelude.{◌≡◌, ℕ, zero, suc, ◌+◌, ◌-◌, ◌*◌, ◌/◌, ◌%◌, ◌^◌, ◌<◌, ◌≤◌, ◌⊎◌, bit_xor, refl}
use Rattle.std.proofs.Common.{sym, ap, ap₂, ◌∙◌, inl, inr, zero-add, add-zero, suc-add, add_comm, mul-zero, mul-one, mul_comm, mul_assoc, zero-mul, pow-suc, arith, pow_pos, shr-shr}
use Rattle.std.specs.Int.Bits.{xor_zero_r, xor_assoc, xor_self, xor_shifted}
use Rattle.std.proofs.lemmas.Nat.{xor_comm, xor_lt, xor_mod, xor_shr, xor_block}
use Rattle.std.proofs.Math.Pow.{pow-lt}
use Rattle.std.proofs.lemmas.Bool.{cases_lt}
use Rattle.galois.specs.Polynomials.{times_z, product_of}

-- a bit is 0 or 1
pub bit_cases : (q : ℕ) → q < 2 → (q ≡ 0) ⊎ (q ≡ 1)
bit_cases q h = go (cases_lt q 1)
  where
    go : (q < 1) ⊎ (1 ≤ q) → (q ≡ 0) ⊎ (q ≡ 1)
    go (inl l) = inl (omega arith)
    go (inr l) = inr (omega arith)

pub scaled_small : (p q : ℕ) → p < 256 → q < 2 → p * q < 256
scaled_small p q hp hq = go (bit_cases q hq)
  where
    go : (q ≡ 0) ⊎ (q ≡ 1) → p * q < 256
    go (inl e) = rw (e, mul-zero) (omega arith)
    go (inr e) = rw (e, mul-one) hp

scaled_xor : (p x y : ℕ) → x < 2 → y < 2 → p * bit_xor x y ≡ bit_xor (p * x) (p * y)
scaled_xor p x y hx hy = go (bit_cases x hx) (bit_cases y hy)
  where
    go : (x ≡ 0) ⊎ (x ≡ 1) → (y ≡ 0) ⊎ (y ≡ 1) → p * bit_xor x y ≡ bit_xor (p * x) (p * y)
    go (inl e) (inl d) = simp (e, d, mul-zero)
    go (inl e) (inr d) = simp (e, d, mul-zero)
    go (inr e) (inl d) = simp (e, d, mul-zero, mul-one, xor_zero_r)
    go (inr e) (inr d) = simp (e, d, mul-zero, mul-one, xor_self)

doubled_xor : (a b : ℕ) → bit_xor a b * 2 ≡ bit_xor (a * 2) (b * 2)
doubled_xor a b = sym (simp add-zero at (xor_block 1 a b 0 0 (omega arith) (omega arith)))

xor_left_comm : (a b c : ℕ) → bit_xor a (bit_xor b c) ≡ bit_xor b (bit_xor a c)
xor_left_comm a b c = sym (xor_assoc a b c) ∙ ap (λ x. bit_xor x c) (xor_comm a b) ∙ xor_assoc b a c

xor_regroup : (a b c d : ℕ) → bit_xor (bit_xor a b) (bit_xor c d) ≡ bit_xor (bit_xor a c) (bit_xor b d)
xor_regroup a b c d = simp (xor_assoc, xor_left_comm)

pub times_z_xor : (p a b : ℕ) → times_z p (bit_xor a b) ≡ bit_xor (times_z p a) (times_z p b)
unfolding times_z
times_z_xor p a b =
    ap₂ bit_xor (ap (λ u. u % 256) (doubled_xor a b) ∙ xor_mod (a * 2) (b * 2) 8)
    (ap (λ u. p * (u % 2)) (xor_shr a b 7) ∙ ap (λ u. p * u) (xor_mod (a / 128) (b / 128) 1) ∙ scaled_xor p (a / 128 % 2) (b / 128 % 2) (omega arith) (omega arith))
    ∙ xor_regroup (a * 2 % 256) (b * 2 % 256) (p * (a / 128 % 2)) (p * (b / 128 % 2))

pub times_z_zero : (p : ℕ) → times_z p 0 ≡ 0
unfolding times_z
times_z_zero p = mul-zero p

pub times_z_small : (p a : ℕ) → p < 256 → times_z p a < 256
unfolding times_z
times_z_small p a h = xor_lt 8 (a * 2 % 256) (p * (a / 128 % 2)) (omega arith) (scaled_small p (a / 128 % 2) h (omega arith))

-- nothing is taken off a polynomial of degree 6 at most
pub times_z-low : (p a : ℕ) → a < 128 → times_z p a ≡ a * 2
unfolding times_z
times_z-low p a h =
    let whole : a * 2 % 256 ≡ a * 2 = omega arith in
    let none : a / 128 % 2 ≡ 0 = omega arith in
    ap₂ bit_xor whole (ap (λ q. p * q) none ∙ mul-zero p) ∙ xor_zero_r (a * 2)

-- a times z^n
unfoldable pub shifted : ℕ → ℕ → ℕ → ℕ
shifted p zero a = a
shifted p (suc n) a = times_z p (shifted p n a)

pub shifted_zero : (p n : ℕ) → shifted p n 0 ≡ 0
unfolding shifted
shifted_zero p zero = refl
shifted_zero p (suc n) = ap (times_z p) (shifted_zero p n) ∙ times_z_zero p

pub shifted_xor : (p n a b : ℕ) → shifted p n (bit_xor a b) ≡ bit_xor (shifted p n a) (shifted p n b)
unfolding shifted
shifted_xor p zero a b = refl
shifted_xor p (suc n) a b = ap (times_z p) (shifted_xor p n a b) ∙ times_z_xor p (shifted p n a) (shifted p n b)

pub shifted_add : (p m n a : ℕ) → shifted p (m + n) a ≡ shifted p m (shifted p n a)
unfolding shifted
shifted_add p zero n a = rw zero-add
shifted_add p (suc m) n a = rw suc-add (ap (times_z p) (shifted_add p m n a))

pub shifted_swap : (p m n a : ℕ) → shifted p m (shifted p n a) ≡ shifted p n (shifted p m a)
shifted_swap p m n a = sym (shifted_add p m n a) ∙ ap (λ k. shifted p k a) (add_comm m n) ∙ shifted_add p n m a

pub shifted_small : (p n a : ℕ) → p < 256 → a < 256 → shifted p n a < 256
unfolding shifted
shifted_small p zero a h k = k
shifted_small p (suc n) a h k = times_z_small p (shifted p n a) h

pub product_zero : (n p b : ℕ) → product_of n p 0 b ≡ 0
unfolding product_of
product_zero zero p b = refl
product_zero (suc n) p b = ap₂ bit_xor (zero-mul (b % 2)) (ap (λ a. product_of n p a (b / 2)) (times_z_zero p) ∙ product_zero n p (b / 2))

-- a bit times a multiple of z
times_z-bit : (p a q : ℕ) → q < 2 → times_z p a * q ≡ times_z p (a * q)
times_z-bit p a q h = go (bit_cases q h)
  where
    go : (q ≡ 0) ⊎ (q ≡ 1) → times_z p a * q ≡ times_z p (a * q)
    go (inl e) = simp (e, mul-zero, times_z_zero)
    go (inr e) = simp (e, mul-one)

product_times_z : (n p a b : ℕ) → product_of n p (times_z p a) b ≡ times_z p (product_of n p a b)
unfolding product_of
product_times_z zero p a b = sym (times_z_zero p)
product_times_z (suc n) p a b =
    ap₂ bit_xor (times_z-bit p a (b % 2) (omega arith)) (product_times_z n p (times_z p a) (b / 2))
    ∙ sym (times_z_xor p (a * (b % 2)) (product_of n p (times_z p a) (b / 2)))

-- the lowest bit of b and the others, each k places up
xor_places : (k b : ℕ) → bit_xor (2 ^ k * (b % 2)) (b / 2 * 2 ^ suc k) ≡ b * 2 ^ k
xor_places k b =
    let high : b / 2 * 2 ^ suc k ≡ b / 2 * 2 * 2 ^ k = rw (pow-suc 2 k, mul_comm (2 ^ k) 2) (sym (mul_assoc (b / 2) 2 (2 ^ k))) in
    let parts : bit_xor (b % 2) (b / 2 * 2) ≡ b = xor_comm (b % 2) (b / 2 * 2) ∙ xor_shifted (b / 2) 1 (b % 2) (omega arith) ∙ omega arith in
    ap₂ bit_xor (mul_comm (2 ^ k) (b % 2)) high ∙ (simp add-zero at (xor_block k (b % 2) (b / 2 * 2) 0 0 (pow_pos k) (pow_pos k))) ∙ ap (λ x. x * 2 ^ k) parts

-- nothing is taken off a product of degree 7 at most
product_low : (n p k b : ℕ) → k + n ≤ 8 → b < 2 ^ n → product_of n p (2 ^ k) b ≡ b * 2 ^ k
unfolding product_of
product_low zero p k b h l = let none : b ≡ 0 = omega arith in sym (ap (λ x. x * 2 ^ k) none ∙ zero-mul (2 ^ k))
product_low (suc zero) p k b h l =
    let none : 0 ≡ b / 2 = omega arith in
    ap (bit_xor (2 ^ k * (b % 2))) (sym (zero-mul (2 ^ suc k)) ∙ ap (λ x. x * 2 ^ suc k) none) ∙ xor_places k b
product_low (suc (suc n)) p k b h l =
    let next : times_z p (2 ^ k) ≡ 2 ^ suc k = times_z-low p (2 ^ k) (pow-lt {j = 7} (omega arith)) ∙ sym (pow-suc 2 k) in
    let half : b / 2 < 2 ^ suc n = omega (arith, pow-suc 2 (suc n)) in
    ap (λ a. bit_xor (2 ^ k * (b % 2)) (product_of (suc n) p a (b / 2))) next
    ∙ ap (bit_xor (2 ^ k * (b % 2))) (product_low (suc n) p (suc k) (b / 2) (omega arith) half) ∙ xor_places k b

-- bit i of b and its multiple of a have their place in the sum
pub product_more : (p r a b i : ℕ) → i < 8
    → bit_xor (bit_xor r (a * (b / 2 ^ i % 2))) (product_of (8 - (i + 1)) p (times_z p a) (b / 2 ^ (i + 1))) ≡ bit_xor r (product_of (8 - i) p a (b / 2 ^ i))
unfolding product_of
product_more p r a b i h =
    let one : suc (8 - (i + 1)) ≡ 8 - i = omega arith in
    xor_assoc r (a * (b / 2 ^ i % 2)) (product_of (8 - (i + 1)) p (times_z p a) (b / 2 ^ (i + 1)))
    ∙ ap (λ y. bit_xor r (bit_xor (a * (b / 2 ^ i % 2)) (product_of (8 - (i + 1)) p (times_z p a) y))) (sym (shr-shr b i 1))
    ∙ ap (λ n. bit_xor r (product_of n p a (b / 2 ^ i))) one

-- the code's form of a byte times z
pub times_z_byte : (p a : ℕ) → a < 256 → bit_xor (a * 2 % 256) (p * (a / 128)) ≡ times_z p a
unfolding times_z
times_z_byte p a h = let bit : a / 128 ≡ a / 128 % 2 = omega arith in ap (λ q. bit_xor (a * 2 % 256) (p * q)) bit

-- a product by a power of z is that many times z
pub product_shifted : (p n b : ℕ) → b < 256 → product_of 8 p (shifted p n 1) b ≡ shifted p n b
unfolding shifted
product_shifted p zero b h = product_low 8 p 0 b (omega arith) h ∙ mul-one b
product_shifted p (suc n) b h = product_times_z 8 p (shifted p n 1) b ∙ ap (times_z p) (product_shifted p n b h)
