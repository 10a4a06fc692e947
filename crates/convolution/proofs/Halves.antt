-- Two halves of a step make the whole.
use Rattle.std.proofs.Common.{◌≡◌, ℕ, ◌+◌, ◌-◌, ◌*◌, ◌/◌, ◌%◌, ◌^◌, ◌<◌, Bool, true, false, cond, not, ltb, List, ◌++◌, length, get_or, sym, refl, ap, ◌∙◌, inl, inr, add-zero, arith}
use lib.Bits.{bit_or}
use Rattle.std.proofs.lemmas.Nat.{shl_whole, or_comm, or_shifted, shr_high, shr-shr}
use Rattle.std.proofs.lemmas.List.{get_or_append_left, get_or-append_right}
use Rattle.std.proofs.lemmas.Bool.{cases_lt}
use Rattle.convolution.specs.Code.{bit}
use Rattle.convolution.specs.Lanes.{through, takes, Selected}
use Rattle.convolution.specs.Trellis.{before, bit_of}
use Rattle.convolution.proofs.OneBit.{bit_below, bit-turned}

-- the way into k over the window w
pub lane_is : (cost : ℕ → ℕ) (ms : List ℕ) (k : ℕ) (b : Bool) (v m p i w : ℕ) → v ≡ m + p → m ≡ get_or ms i 0 → p ≡ cost w → w ≡ 2 * k + bit b → i ≡ w % 64 → v ≡ through cost ms k b
lane_is cost ms k b v m p i w e f g h o = e ∙ ap (λ x. x + p) (f ∙ ap (λ n. get_or ms n 0) (o ∙ ap (λ n. n % 64) h)) ∙ ap (λ x. get_or ms (before k b) 0 + x) (g ∙ ap cost h)

-- half of a step: the states from h on, the way by 0 marked where it is kept
pub record Half (cost : ℕ → ℕ) (h : ℕ) (ms next : List ℕ) (d : ℕ) : Type 0 where
  pub count : length next ≡ 32
  pub least : (s : ℕ) → s < 32 → get_or next s 0 ≡ cond (takes cost ms (s + h)) (through cost ms (s + h) true) (through cost ms (s + h) false)
  pub kept : (s : ℕ) → s < 32 → bit_of d s ≡ bit (not (takes cost ms (s + h)))
  pub below : d < 2 ^ 32

pub half : (cost : ℕ → ℕ) (h : ℕ) (ms zeros ones next : List ℕ) (d : ℕ) → length next ≡ 32 → d < 2 ^ 32 →
    ((s : ℕ) → s < 32 → (get_or zeros s 0 ≡ through cost ms (s + h) false) × (get_or ones s 0 ≡ through cost ms (s + h) true)) →
    ((s : ℕ) → s < 32 → get_or next s 0 ≡ cond (ltb (get_or ones s 0) (get_or zeros s 0)) (get_or ones s 0) (get_or zeros s 0)) →
    ((s : ℕ) → s < 32 → bit_of d s ≡ bit (not (ltb (get_or ones s 0) (get_or zeros s 0)))) → Half cost h ms next d
half cost h ms zeros ones next d l b is least kept = record {
  count = l;
  least = λ s k. let e = is s k in rw (← e.0, ← e.1) (least s k);
  kept = λ s k. let e = is s k in rw (← e.0, ← e.1) (kept s k);
  below = b;
}

bit_not : (t : Bool) → 1 - bit (not t) ≡ bit t
bit_not true = refl
bit_not false = refl

pub whole : (cost : ℕ → ℕ) (ms first second : List ℕ) (a b : ℕ) → Half cost 0 ms first a → Half cost 32 ms second b → Selected cost 0 ms (first ++ second) (18446744073709551615 - bit_or a ((b * 4294967296) % 18446744073709551616))
whole cost ms first second a b x y =
    let joined : bit_or a ((b * 4294967296) % 18446744073709551616) ≡ b * 2 ^ 32 + a =
    ap (bit_or a) (shl_whole b 32 32 64 y.below (omega arith)) ∙ or_comm a (b * 2 ^ 32) ∙ or_shifted b 32 a x.below in
    let n = b * 2 ^ 32 + a in
    let small : n < 2 ^ 64 = omega (arith, x.below, y.below) in
    let G : ℕ → ℕ = λ k. cond (takes cost ms k) (through cost ms k true) (through cost ms k false) in
    let B : ℕ → ℕ = λ k. bit (not (takes cost ms k)) in
    let kept : (s : ℕ) → s < 64 → bit_of n s ≡ B s =
    λ s h. elim (cases_lt s 32) [
      | inl l ↦ bit_below a 32 b s x.below l ∙ x.kept s l ∙ ap B (add-zero s)
      | inr g ↦
          let k = s - 32 in
          let e : k + 32 ≡ s = omega arith in
          let f : s ≡ 32 + k = omega arith in
          ap (λ m. n / 2 ^ m % 2) f ∙ ap (λ v. v % 2) (sym (shr-shr n 32 k)) ∙ ap (λ v. v / 2 ^ k % 2) (shr_high b 32 a x.below) ∙ y.kept k (omega arith) ∙ ap B e
    ] in
    record {
      least = λ s h. add-zero (get_or (first ++ second) s 0) ∙ elim (cases_lt s 32) [
        | inl l ↦ get_or_append_left first second 0 s (omega arith) ∙ x.least s l ∙ ap G (add-zero s)
        | inr g ↦ let e : s - 32 + 32 ≡ s = omega arith in get_or-append_right first second 32 s 0 x.count g ∙ y.least (s - 32) (omega arith) ∙ ap G e
      ];
      chosen = λ s h. rw joined (bit-turned 64 n s small h ∙ ap (λ v. 1 - v) (kept s h) ∙ bit_not (takes cost ms s));
    }

-- an amount off each lane of two halves
pub both_lower : (x y x' y' : List ℕ) (k : ℕ) → length x ≡ 32 → length x' ≡ 32 → ((s : ℕ) → s < 32 → get_or x s 0 + k ≡ get_or x' s 0) → ((s : ℕ) → s < 32 → get_or y s 0 + k ≡ get_or y' s 0) → (s : ℕ) → s < 64 → get_or (x ++ y) s 0 + k ≡ get_or (x' ++ y') s 0
both_lower x y x' y' k l l' h g s b = elim (cases_lt s 32) [
  | inl lt ↦ rw (get_or_append_left x y 0 s (omega arith), get_or_append_left x' y' 0 s (omega arith)) (h s lt)
  | inr ge ↦ rw (get_or-append_right x y 32 s 0 l ge, get_or-append_right x' y' 32 s 0 l' ge) (g (s - 32) (omega arith))
]

pub high_at : (x y : List ℕ) (s : ℕ) → length x ≡ 32 → get_or (x ++ y) (s + 32) 0 ≡ get_or y s 0
high_at x y s l = let e : s + 32 - 32 ≡ s = omega arith in get_or-append_right x y 32 (s + 32) 0 l (omega arith) ∙ ap (λ k. get_or y k 0) e
