-- The remainder of a body, byte after byte, and what makes it the only one.
use Rattle.std.specs.Prelude.{◌≡◌, ℕ, ◌+◌, ◌*◌, ◌/◌, ◌%◌, ◌<◌, ◌≤◌, ◌⊎◌, List, [], ◌∷◌, ◌++◌, map, length, take, replicate, bit_xor, nat_lt, slice_index, slice_index_or, refl}
use Rattle.std.proofs.Common.{sym, ap, ap₂, ◌∙◌, subst, inl, inr, append_assoc, append-nil, mul_comm, add-zero, zero-add, arith}
use Rattle.std.specs.Int.Bits.{xor_zero_r, xor_assoc, xor_self, xor_shifted}
use Rattle.std.proofs.lemmas.Nat.{xor_comm, xor_lt, xor_shr, xor_block}
use Rattle.std.proofs.lemmas.List.FromFn.{get_or-map-range_with_len}
use Rattle.std.proofs.ByRecursion.{All-append}
use Rattle.std.proofs.lemmas.List.{take_more}
use Rattle.std.proofs.lemmas.Bool.{cases_lt, lt-ltb, le-ltb, cond-true, cond-false}
use Rattle.std.specs.List.{range_with_len}
use Rattle.stages.specs.Remainder.{Coefficients, bits, all_bits, divisor, reduced, divided, check_byte, number_from, number, multiple_from, multiple, Divides}

xor_left_comm : (a b c : ℕ) → bit_xor a (bit_xor b c) ≡ bit_xor b (bit_xor a c)
xor_left_comm a b c = sym (xor_assoc a b c) ∙ ap (λ x. bit_xor x c) (xor_comm a b) ∙ xor_assoc b a c

xor_regroup : (a b c d : ℕ) → bit_xor (bit_xor a b) (bit_xor c d) ≡ bit_xor (bit_xor a c) (bit_xor b d)
xor_regroup a b c d = simp (xor_assoc, xor_left_comm)

xor_twice : (a b : ℕ) → bit_xor (bit_xor a b) b ≡ a
xor_twice a b = xor_assoc a b b ∙ ap (bit_xor a) (xor_self b) ∙ xor_zero_r a

-- the next coefficient comes down to a sum of two polynomials
next_xor : (m r b : ℕ) → b < 2 → 2 * bit_xor m r + b ≡ bit_xor (2 * m) (2 * r + b)
next_xor m r b h =
    ap (λ n. n + b) (mul_comm 2 (bit_xor m r)) ∙ sym (xor_block 1 m r 0 b (omega arith) h)
    ∙ ap₂ bit_xor (add-zero (m * 2) ∙ mul_comm m 2) (ap (λ n. n + b) (mul_comm r 2))

double_xor : (m n : ℕ) → 2 * bit_xor m n ≡ bit_xor (2 * m) (2 * n)
double_xor m n = sym (add-zero (2 * bit_xor m n)) ∙ next_xor m n 0 (omega arith) ∙ ap (bit_xor (2 * m)) (add-zero (2 * n))

bit_cases : (q : ℕ) → q < 2 → (q ≡ 0) ⊎ (q ≡ 1)
bit_cases q h = go (cases_lt q 1)
  where
    go : (q < 1) ⊎ (1 ≤ q) → (q ≡ 0) ⊎ (q ≡ 1)
    go (inl l) = inl (omega arith)
    go (inr l) = inr (omega arith)

times_divisor_xor : (p q : ℕ) → p < 2 → q < 2 → bit_xor p q * divisor ≡ bit_xor (p * divisor) (q * divisor)
times_divisor_xor p q hp hq = go (bit_cases p hp) (bit_cases q hq)
  where
    go : (p ≡ 0) ⊎ (p ≡ 1) → (q ≡ 0) ⊎ (q ≡ 1) → bit_xor p q * divisor ≡ bit_xor (p * divisor) (q * divisor)
    go (inl d) (inl e) = rw (d, e)
    go (inl d) (inr e) = rw (d, e)
    go (inr d) (inl e) = rw (d, e)
    go (inr d) (inr e) = rw (d, e)

-- the divisor is taken off as often as it goes in: once or not at all
reduced_is : (x : ℕ) → x < 512 → reduced x ≡ bit_xor x (x / 256 * divisor)
unfolding reduced
reduced_is x h = go (cases_lt x 256)
  where
    go : (x < 256) ⊎ (256 ≤ x) → reduced x ≡ bit_xor x (x / 256 * divisor)
    go (inl l) = let q : 0 ≡ x / 256 = omega arith in cond-true (nat_lt x 256) _ _ (lt-ltb x 256 l) ∙ sym (xor_zero_r x) ∙ ap (λ k. bit_xor x (k * divisor)) q
    go (inr l) = let q : 1 ≡ x / 256 = omega arith in cond-false (nat_lt x 256) _ _ (le-ltb x 256 l) ∙ ap (λ k. bit_xor x (k * divisor)) q

reduced_small : (x : ℕ) → x < 512 → reduced x < 256
reduced_small x h =
    let once : x / 256 * divisor / 256 ≡ x / 256 = omega arith in
    let none : reduced x / 256 ≡ 0 = ap (λ y. y / 256) (reduced_is x h) ∙ xor_shr x (x / 256 * divisor) 8 ∙ ap (bit_xor (x / 256)) once ∙ xor_self (x / 256) in
    omega arith

reduced_xor : (x y : ℕ) → x < 512 → y < 512 → reduced (bit_xor x y) ≡ bit_xor (reduced x) (reduced y)
reduced_xor x y hx hy =
    reduced_is (bit_xor x y) (xor_lt 9 x y hx hy)
    ∙ ap (bit_xor (bit_xor x y)) (ap (λ k. k * divisor) (xor_shr x y 8) ∙ times_divisor_xor (x / 256) (y / 256) (omega arith) (omega arith))
    ∙ xor_regroup x y (x / 256 * divisor) (y / 256 * divisor) ∙ sym (ap₂ bit_xor (reduced_is x hx) (reduced_is y hy))

divided_small : (r : ℕ) (bs : List ℕ) → r < 256 → Coefficients bs → divided r bs < 256
unfolding divided
divided_small r [] h k = h
divided_small r (b ∷ bs) h (hb, k) = divided_small (reduced (2 * r + b)) bs (reduced_small (2 * r + b) (omega arith)) k

divided-append : (r : ℕ) (xs ys : List ℕ) → divided r (xs ++ ys) ≡ divided (divided r xs) ys
unfolding divided
divided-append r [] ys = refl
divided-append r (b ∷ xs) ys = divided-append (reduced (2 * r + b)) xs ys

-- division is linear: zeros come down to the one remainder, the coefficients to the other
divided_xor : (r s : ℕ) (bs : List ℕ) → r < 256 → s < 256 → Coefficients bs → divided (bit_xor r s) bs ≡ bit_xor (divided r (replicate (length bs) 0)) (divided s bs)
unfolding divided
divided_xor r s [] hr hs k = refl
divided_xor r s (b ∷ bs) hr hs (hb, k) =
    ap (λ x. divided x bs)
    (ap reduced (next_xor r s b hb ∙ ap (λ x. bit_xor x (2 * s + b)) (sym (add-zero (2 * r)))) ∙ reduced_xor (2 * r + 0) (2 * s + b) (omega arith) (omega arith))
    ∙ divided_xor (reduced (2 * r + 0)) (reduced (2 * s + b)) bs (reduced_small (2 * r + 0) (omega arith)) (reduced_small (2 * s + b) (omega arith)) k

number_from_grows : (v : ℕ) (bs : List ℕ) → v ≤ number_from v bs
unfolding number_from
number_from_grows v [] = omega arith
number_from_grows v (b ∷ bs) = omega (arith, number_from_grows (2 * v + b) bs)

number_from-append : (v : ℕ) (xs ys : List ℕ) → number_from v (xs ++ ys) ≡ number_from (number_from v xs) ys
unfolding number_from
number_from-append v [] ys = refl
number_from-append v (b ∷ xs) ys = number_from-append (2 * v + b) xs ys

-- nothing is taken off a number below 256
divided-number : (v : ℕ) (bs : List ℕ) → number_from v bs < 256 → divided v bs ≡ number_from v bs
unfolding divided number_from reduced
divided-number v [] h = refl
divided-number v (b ∷ bs) h =
    ap (λ x. divided x bs) (cond-true (nat_lt (2 * v + b) 256) _ _ (lt-ltb (2 * v + b) 256 (omega (arith, number_from_grows (2 * v + b) bs)))) ∙ divided-number (2 * v + b) bs h

bits_coefficients : (b : ℕ) → Coefficients (bits b)
unfolding bits
bits_coefficients b = (omega arith, (omega arith, (omega arith, (omega arith, (omega arith, (omega arith, (omega arith, (omega arith, tt))))))))

all_bits_coefficients : (body : List ℕ) → Coefficients (all_bits body)
unfolding all_bits
all_bits_coefficients [] = tt
all_bits_coefficients (b ∷ body) = All-append (λ q. q < 2) (bits b) (all_bits body) (bits_coefficients b) (all_bits_coefficients body)

all_bits_push : (body : List ℕ) (c : ℕ) → all_bits (body ++ c ∷ []) ≡ all_bits body ++ bits c
unfolding all_bits
all_bits_push [] c = append-nil (bits c)
all_bits_push (b ∷ body) c = ap (λ l. bits b ++ l) (all_bits_push body c) ∙ sym (append_assoc (bits b) (all_bits body) (bits c))

number_from-bits : (v b : ℕ) → b < 256 → number_from v (bits b) ≡ v * 256 + b
unfolding number_from bits
number_from-bits v b h =
    let a : b / 128 % 2 ≡ b / 128 = omega arith in
    let e6 : 2 * (b / 128) + b / 64 % 2 ≡ b / 64 = omega arith in
    let e5 : 2 * (b / 64) + b / 32 % 2 ≡ b / 32 = omega arith in
    let e4 : 2 * (b / 32) + b / 16 % 2 ≡ b / 16 = omega arith in
    let e3 : 2 * (b / 16) + b / 8 % 2 ≡ b / 8 = omega arith in
    let e2 : 2 * (b / 8) + b / 4 % 2 ≡ b / 4 = omega arith in
    let e1 : 2 * (b / 4) + b / 2 % 2 ≡ b / 2 = omega arith in
    let e0 : 2 * (b / 2) + b % 2 ≡ b = omega arith in
    omega arith

-- a byte comes down whole, added to the remainder before it times z^8
divided-bits : (r b : ℕ) → r < 256 → b < 256 → divided r (bits b) ≡ bit_xor (divided r (replicate 8 0)) b
unfolding bits
divided-bits r b hr hb =
    let whole : number_from 0 (bits b) ≡ b = number_from-bits 0 b hb ∙ zero-add b in
    ap (λ x. divided x (bits b)) (sym (xor_zero_r r)) ∙ divided_xor r 0 (bits b) hr (omega arith) (bits_coefficients b)
    ∙ ap (bit_xor (divided r (replicate 8 0))) (divided-number 0 (bits b) (omega arith) ∙ whole)

-- the coefficients of a body times z^8
followed : List ℕ → List ℕ
followed body = all_bits body ++ replicate 8 0

followed_coefficients : (body : List ℕ) → Coefficients (followed body)
unfolding followed bits
followed_coefficients body = All-append (λ q. q < 2) (all_bits body) (replicate 8 0) (all_bits_coefficients body) (bits_coefficients 0)

pub check_byte_small : (body : List ℕ) → check_byte body < 256
unfolding check_byte followed
check_byte_small body = divided_small 0 (followed body) (omega arith) (followed_coefficients body)

pub check_byte_none : 0 ≡ check_byte []
unfolding check_byte all_bits divided reduced
check_byte_none = refl

pub check_byte_of_01 : check_byte (0x01 ∷ []) ≡ 0x97
unfolding check_byte all_bits bits divided reduced
check_byte_of_01 = refl

pub check_byte_of_02 : check_byte (0x02 ∷ []) ≡ 0xB9
unfolding check_byte all_bits bits divided reduced
check_byte_of_02 = refl

-- the remainder of a byte times z^8
unfoldable pub shifted : ℕ → ℕ
shifted v = divided v (replicate 8 0)

check_byte_push : (body : List ℕ) (b : ℕ) → b < 256 → check_byte (body ++ b ∷ []) ≡ shifted (bit_xor (check_byte body) b)
unfolding check_byte shifted
check_byte_push body b h =
    let d = divided 0 (all_bits body) in
    ap (λ l. divided 0 (l ++ replicate 8 0)) (all_bits_push body b) ∙ divided-append 0 (all_bits body ++ bits b) (replicate 8 0)
    ∙ ap shifted (divided-append 0 (all_bits body) (bits b) ∙ divided-bits d b (divided_small 0 (all_bits body) (omega arith) (all_bits_coefficients body)) h
    ∙ ap (λ x. bit_xor x b) (sym (divided-append 0 (all_bits body) (replicate 8 0))))

-- one byte more is one entry of the table
pub check_byte_more : (body table : List ℕ) (i r : ℕ) → i < length body → slice_index body i < 256 → table ≡ map shifted (range_with_len 0 256) → r ≡ check_byte (take i body)
    → slice_index table (bit_xor r (slice_index body i)) ≡ check_byte (take (i + 1) body)
check_byte_more body table i r h s rule e =
    let b = slice_index_or body i 0 in
    let before = take i body in
    ap₂ (λ t k. slice_index t (bit_xor k b)) rule e
    ∙ get_or-map-range_with_len shifted 0 256 (bit_xor (check_byte before) b) (bit_xor (check_byte before) b) 0 (xor_lt 8 (check_byte before) b (check_byte_small before) s) (omega arith)
    ∙ sym (check_byte_push before b s) ∙ ap check_byte (sym (take_more body i 0 h))

-- the coefficients of the quotient, as long division finds them
quotients : ℕ → List ℕ → List ℕ
quotients r [] = []
quotients r (b ∷ bs) = (2 * r + b) / 256 ∷ quotients (reduced (2 * r + b)) bs

quotients_coefficients : (r : ℕ) (bs : List ℕ) → r < 256 → Coefficients bs → Coefficients (quotients r bs)
unfolding quotients
quotients_coefficients r [] h k = tt
quotients_coefficients r (b ∷ bs) h (hb, k) = (omega arith, quotients_coefficients (reduced (2 * r + b)) bs (reduced_small (2 * r + b) (omega arith)) k)

-- what is divided is the quotient times the divisor, and the remainder
number_from_xor : (m r : ℕ) (bs : List ℕ) → r < 256 → Coefficients bs → number_from (bit_xor m r) bs ≡ bit_xor (multiple_from m (quotients r bs)) (divided r bs)
unfolding number_from multiple_from divided quotients
number_from_xor m r [] h k = refl
number_from_xor m r (b ∷ bs) h (hb, k) =
    let x = 2 * r + b in
    let off = x / 256 * divisor in
    let back : x ≡ bit_xor (reduced x) off = sym (ap (λ y. bit_xor y off) (reduced_is x (omega arith)) ∙ xor_twice x off) in
    ap (λ n. number_from n bs) (next_xor m r b hb ∙ ap (bit_xor (2 * m)) (back ∙ xor_comm (reduced x) off) ∙ sym (xor_assoc (2 * m) off (reduced x)))
    ∙ number_from_xor (bit_xor (2 * m) off) (reduced x) bs (reduced_small x (omega arith)) k

-- a last byte is added to the body times z^8
number_push : (body : List ℕ) (c : ℕ) → c < 256 → number (all_bits (body ++ c ∷ [])) ≡ bit_xor (number (followed body)) c
unfolding number followed bits
number_push body c h =
    let n = number_from 0 (all_bits body) in
    let zeros : number_from n (replicate 8 0) ≡ n * 256 = number_from-bits n 0 (omega arith) ∙ add-zero (n * 256) in
    ap number (all_bits_push body c) ∙ number_from-append 0 (all_bits body) (bits c) ∙ number_from-bits n c h ∙ sym (xor_shifted n 8 c h)
    ∙ ap (λ x. bit_xor x c) (sym (number_from-append 0 (all_bits body) (replicate 8 0) ∙ zeros))

pub check_byte_divides : (body : List ℕ) → Divides body (check_byte body)
unfolding number multiple followed check_byte
check_byte_divides body = record {
  quotient = quotients 0 (followed body);
  coefficients = quotients_coefficients 0 (followed body) (omega arith) (followed_coefficients body);
  product =
      number_push body (check_byte body) (check_byte_small body)
      ∙ ap (λ x. bit_xor x (check_byte body)) (number_from_xor 0 0 (followed body) (omega arith) (followed_coefficients body))
      ∙ xor_twice (multiple (quotients 0 (followed body))) (check_byte body);
}

-- the multiples of the divisor
data Multiple : ℕ → Type 0 where
  none : Multiple 0
  more : {m : ℕ} (q : ℕ) → q < 2 → Multiple m → Multiple (bit_xor (2 * m) (q * divisor))

multiple_from-multiple : (v : ℕ) (qs : List ℕ) → Coefficients qs → Multiple v → Multiple (multiple_from v qs)
unfolding multiple_from
multiple_from-multiple v [] k w = w
multiple_from-multiple v (q ∷ qs) (h, k) w = multiple_from-multiple (bit_xor (2 * v) (q * divisor)) qs k (more q h w)

multiple_xor : {m n : ℕ} → Multiple m → Multiple n → Multiple (bit_xor m n)
multiple_xor none w = w
multiple_xor {m} (more p hp v) none = subst Multiple (sym (xor_zero_r m)) (more p hp v)
multiple_xor (more {m} p hp v) (more {m = n} q hq w) =
    subst Multiple
    (ap₂ bit_xor (double_xor m n) (times_divisor_xor p q hp hq) ∙ xor_regroup (2 * m) (2 * n) (p * divisor) (q * divisor))
    (more (bit_xor p q) (xor_lt 1 p q hp hq) (multiple_xor v w))

-- a multiple other than 0 has degree 8 or more
multiple_cases : {m : ℕ} → Multiple m → (m ≡ 0) ⊎ (256 ≤ m)
multiple_cases none = inl refl
multiple_cases (more {m} q h w) = go (multiple_cases w) (bit_cases q h)
  where
    go : (m ≡ 0) ⊎ (256 ≤ m) → (q ≡ 0) ⊎ (q ≡ 1) → (bit_xor (2 * m) (q * divisor) ≡ 0) ⊎ (256 ≤ bit_xor (2 * m) (q * divisor))
    go (inl e) (inl d) = inl (rw (e, d))
    go (inl e) (inr d) = inr (rw (e, d) (omega arith))
    go (inr l) d =
        let off : q * divisor / 512 ≡ 0 = omega arith in
        let high : bit_xor (2 * m) (q * divisor) / 512 ≡ 2 * m / 512 = xor_shr (2 * m) (q * divisor) 9 ∙ ap (bit_xor (2 * m / 512)) off ∙ xor_zero_r (2 * m / 512) in
        inr (omega arith)

xor_cancel : (a b : ℕ) → bit_xor a b ≡ 0 → a ≡ b
xor_cancel a b e = sym (xor_twice a b) ∙ ap (λ x. bit_xor x b) e

divides_multiple : (body : List ℕ) (c : ℕ) → c < 256 → Divides body c → Multiple (bit_xor (number (followed body)) c)
unfolding multiple
divides_multiple body c h d = subst Multiple (sym d.product ∙ number_push body c h) (multiple_from-multiple 0 d.quotient d.coefficients none)

divides_same : (body : List ℕ) (c k : ℕ) → c < 256 → k < 256 → Divides body c → Divides body k → c ≡ k
divides_same body c k hc hk d e = xor_cancel c k (go (multiple_cases (subst Multiple sum (multiple_xor (divides_multiple body c hc d) (divides_multiple body k hk e)))))
  where
    n : ℕ
    n = number (followed body)

    sum : bit_xor (bit_xor n c) (bit_xor n k) ≡ bit_xor c k
    sum = xor_regroup n c n k ∙ ap (λ x. bit_xor x (bit_xor c k)) (xor_self n)

    go : (bit_xor c k ≡ 0) ⊎ (256 ≤ bit_xor c k) → bit_xor c k ≡ 0
    go (inl z) = z
    go (inr l) = absurd (omega (arith, xor_lt 8 c k hc hk))

pub check_byte_only : (body : List ℕ) (c : ℕ) → c < 256 → Divides body c → c ≡ check_byte body
check_byte_only body c h d = divides_same body c (check_byte body) h (check_byte_small body) d (check_byte_divides body)
