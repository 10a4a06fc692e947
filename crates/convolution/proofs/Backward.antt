-- The bits that the traceback finds, byte after byte.
use Rattle.std.proofs.Common.{◌≡◌, ℕ, zero, suc, ◌+◌, ◌-◌, ◌*◌, ◌/◌, ◌%◌, ◌^◌, ◌<◌, ◌≤◌, eqb, List, [], ◌∷◌, ◌++◌, reverse, length, get_or, take, drop, set, sym, refl, ap, ◌∙◌, append_assoc, div-one, add-one, arith}
use mathlib.Core.List.{reverse-append, reverse-reverse}
use lib.Bits.{bit_and, bit_or}
use lib.ListN.{length-reverse}
use Rattle.std.proofs.lemmas.Nat.{and_mask}
use Rattle.std.proofs.lemmas.List.{drop-set, drop_at, get_or_at, get_or-drop, get_or-take, length-append, length-drop, length-take-le, take_at, take-take}
use Rattle.convolution.specs.declared.rate.Rate.{Rate}
use Rattle.convolution.specs.Code.{Word, zeros, bits, all_bits}
use Rattle.convolution.specs.Cost.{step_cost, best, least}
use Rattle.convolution.specs.Slots.{Decided, Decoded}
use Rattle.convolution.specs.Trellis.{bit_of, back}
use Rattle.convolution.proofs.InTime.{least-reverse, least_first}
use Rattle.convolution.proofs.Pricing.{step_le}
use Rattle.convolution.proofs.Refine.{back-trace}
use Rattle.convolution.proofs.Leaving.{total, trace-best}
use Rattle.convolution.proofs.OneBit.{or_bit, bit_lt, bit_below, bit_at}

-- the k lowest bits of a number, the lowest first
unfoldable pub lows : ℕ → ℕ → Word
lows zero n = []
lows (suc k) n = lows k n ++ (eqb (bit_of n k) 1 ∷ [])

lows_more : (k j b d : ℕ) → b < 2 ^ k → j ≤ k → lows j (d * 2 ^ k + b) ≡ lows j b
unfolding lows
lows_more k zero b d h l = refl
lows_more k (suc j) b d h l = rw (lows_more k j b d h (omega arith), bit_below b k d j h l)

pub lows-bits : (b : ℕ) → lows 8 b ≡ reverse (bits b)
unfolding lows bits
lows-bits b = rw (div-one b)

-- after k of eight steps back from a + 8, with the bits so far in a number
pub record Left (ds : List ℕ) (a s k b q : ℕ) : Type 0 where
  pub state : q < 64
  pub low : b < 2 ^ k
  pub rest : back ds (a + 8) s ≡ lows k b ++ back ds (a + (8 - k)) q

pub left_none : (ds : List ℕ) (a s : ℕ) → s < 64 → Left ds a s 0 0 s
unfolding lows
left_none ds a s h = record { state = h; low = omega arith; rest = refl }

back_step : (ds : List ℕ) (n m s d : ℕ) → n ≡ suc m → d ≡ bit_of (get_or ds m 0) s → back ds n s ≡ eqb d 1 ∷ back ds m ((2 * s + d) % 64)
unfolding back
back_step ds n m s d e f = rw (e, f)

pub left_more : (ds : List ℕ) (a s k b q : ℕ) → k < 8 → Left ds a s k b q →
    let d : ℕ = bit_and (get_or ds (a + 7 - k) 0 / 2 ^ q) 1 in
    Left ds a s (k + 1) (bit_or b ((d * 2 ^ k) % 2 ^ 64)) ((2 * q + d) % 64)
unfolding lows
left_more ds a s k b q l h =
    let m = a + 7 - k in
    let d : ℕ = bit_and (get_or ds m 0 / 2 ^ q) 1 in
    let is : d ≡ bit_of (get_or ds m 0) q = and_mask (get_or ds m 0 / 2 ^ q) 1 in
    let two : d < 2 = omega arith in
    let e : a + (8 - k) ≡ suc m = omega arith in
    let f : a + (8 - (k + 1)) ≡ m = omega arith in
    let one : bit_or b ((d * 2 ^ k) % 2 ^ 64) ≡ d * 2 ^ k + b = or_bit b k d h.low two (omega arith) in
    record {
      state = omega arith;
      low = rw one (bit_lt b k d h.low two);
      rest = h.rest ∙ rw (one, f, add-one k, lows_more k k b d h.low (omega arith), bit_at b k d h.low two, back_step ds (a + (8 - k)) m q d e is) (sym (append_assoc (lows k b) (eqb d 1 ∷ []) (back ds m ((2 * q + d) % 64))));
    }

-- the last of the first n elements from a on, and those before it
last_of : (ds xs : List ℕ) (a n v : ℕ) → a + n ≤ length ds → xs ++ v ∷ [] ≡ take n (drop a ds) → (n ≡ length xs + 1) × (xs ≡ take (n - 1) (drop a ds)) × (v ≡ get_or ds (a + (n - 1)) 0)
last_of ds xs a n v h e =
    let long : length xs + 1 ≡ n = sym (length-append xs (v ∷ [])) ∙ ap length e ∙ length-take-le n (drop a ds) (omega (arith, length-drop a ds)) in
    let last : length xs ≡ n - 1 = omega arith in (
      sym long,
      sym (take_at xs (v ∷ []) (n - 1) last) ∙ ap (take (n - 1)) e ∙ take-take (n - 1) n (drop a ds) (omega arith),
      sym (get_or_at xs v [] 0 (n - 1) last) ∙ ap (λ (l : List ℕ). get_or l (n - 1) 0) e ∙ get_or-take n (drop a ds) (n - 1) 0 (omega arith) ∙ get_or-drop a ds (n - 1) 0,
    )

-- one step more takes the last of the steps that are left
pub left_next : (ds xs rest : List ℕ) (a s k b q v : ℕ) → a + 8 ≤ length ds → k ≤ 8 → rest ≡ take (8 - k) (drop a ds) → rest ≡ xs ++ v ∷ [] → Left ds a s k b q →
    let d : ℕ = bit_and (v / 2 ^ q) 1 in
    Left ds a s (k + 1) (bit_or b ((d * 2 ^ k) % 2 ^ 64)) ((2 * q + d) % 64) × (k + 1 ≤ 8) × (xs ≡ take (8 - (k + 1)) (drop a ds))
left_next ds xs rest a s k b q v h l e f left =
    let (long, before, last) = last_of ds xs a (8 - k) v (omega arith) (sym f ∙ e) in
    let at : a + (8 - k - 1) ≡ a + 7 - k = omega arith in
    let next : 8 - k - 1 ≡ 8 - (k + 1) = omega arith in (
      rw (last, at) (left_more ds a s k b q (omega arith) left),
      omega arith,
      before ∙ ap (λ n. take n (drop a ds)) next,
    )

pub none_left : (ds rest : List ℕ) (a k : ℕ) → a + 8 ≤ length ds → k ≤ 8 → rest ≡ take (8 - k) (drop a ds) → length rest ≡ 0 → k ≡ 8
none_left ds rest a k h l e none = omega (arith, ap length e, length-drop a ds, length-take-le (8 - k) (drop a ds) (omega (arith, length-drop a ds)))

pub left_eight : (ds : List ℕ) (a s k b q : ℕ) → k ≡ 8 → Left ds a s k b q → back ds (a + 8) s ≡ reverse (bits b) ++ back ds a q
left_eight ds a s k b q e h =
    let z : a + (8 - k) ≡ a = omega arith in
    h.rest ∙ rw (z, e, lows-bits b)

-- one byte more of the body
pub body_more : (ds body : List ℕ) (w : Word) (i s b q : ℕ) → 0 < i → i ≤ length body →
    back ds (8 * (i - 1) + 6 + 8) s ≡ reverse (bits b) ++ back ds (8 * (i - 1) + 6) q →
    w ≡ reverse (back ds (8 * i + 6) s) ++ all_bits (drop i body) →
    w ≡ reverse (back ds (8 * (i - 1) + 6) q) ++ all_bits (drop (i - 1) (set body (i - 1) b))
unfolding all_bits
body_more ds body w i s b q p l step h =
    let j = i - 1 in
    let e : 8 * i + 6 ≡ 8 * j + 6 + 8 = omega arith in
    let f : i ≡ j + 1 = omega arith in
    let r = reverse (back ds (8 * j + 6) q) in
    h ∙ ap (λ n. reverse (back ds n s) ++ all_bits (drop i body)) e
    ∙ ap (λ u. reverse u ++ all_bits (drop i body)) step
    ∙ ap (λ u. u ++ all_bits (drop i body)) (reverse-append (reverse (bits b)) (back ds (8 * j + 6) q) ∙ ap (λ u. r ++ u) (reverse-reverse (bits b)))
    ∙ append_assoc r (bits b) (all_bits (drop i body))
    ∙ ap (λ n. r ++ (bits b ++ all_bits (drop n body))) f
    ∙ ap (λ u. r ++ all_bits u) (sym (drop-set body j b (omega arith)))

length_back : (ds : List ℕ) (n s : ℕ) → length (back ds n s) ≡ n
unfolding back
length_back ds zero s = refl
length_back ds (suc n) s = ap suc (length_back ds n ((2 * s + bit_of (get_or ds n 0) s) % 64))

-- the traceback from state 0 through right decisions gives the bits of least cost
pub decoded : (ds body : List ℕ) (s : ℕ) → length ds ≡ 8 * length body + 6 → reverse (back ds (8 * length body + 6) 0) ≡ reverse (back ds 6 s) ++ all_bits body → Decoded ds body
decoded ds body s l is = record { found = found; before_all = λ rate price h. rw (found rate price h) (least_first rate price (8 * length body)) }
  where
    found : (rate : Rate) (price : ℕ → ℕ → ℕ) → Decided rate price ds → all_bits body ≡ least rate price (8 * length body)
    found rate price h =
        let n = 8 * length body in
        let cost = step_cost rate price in
        let w = best n (λ d. total cost (zeros 6 ++ d)) in
        let z = reverse (back ds 6 s) in
        let traced : back ds (n + 6) 0 ≡ w ++ zeros 6 =
        back-trace cost (n + 6) ds (λ t lt. h.chose t (omega arith)) 0 (omega arith) ∙ trace-best cost (step_le rate price h.small) n in
        let split : z ++ all_bits body ≡ zeros 6 ++ reverse w = sym is ∙ ap reverse traced ∙ reverse-append w (zeros 6) in
        sym (drop_at z (all_bits body) 6 (length-reverse (back ds 6 s) ∙ length_back ds 6 s)) ∙ ap (drop 6) split ∙ sym (least-reverse rate price n)
