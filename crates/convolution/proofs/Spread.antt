-- How far apart the costs of the states can be: six steps lead from each state to each.
use Rattle.std.proofs.Common.{ℕ, zero, suc, ◌+◌, ◌*◌, ◌<◌, ◌≤◌, Bool, true, false, cond, ltb, List, get_or, set, replicate, sym, ap, ◌∙◌, inl, inr, arith}
use lib.ListN.{get_or-replicate}
use Rattle.std.proofs.lemmas.List.{get_or_past}
use Rattle.std.proofs.lemmas.Bool.{cases_lt}
use Rattle.std.proofs.lemmas.Bool.Decides.{nat_tests}
use Rattle.convolution.specs.Code.{bit}
use Rattle.convolution.specs.Lanes.{through, Selected, Meet, Near}
use Rattle.convolution.specs.Trellis.{before, far}
use Rattle.convolution.proofs.Leaving.{origin, origin-six}

meet_six : (s p : ℕ) → Meet 6 s p
unfolding Meet origin
meet_six s p a b c d e f = origin-six s a b c d e f ∙ sym (origin-six p a b c d e f)

pub near_all : (ms : List ℕ) → Near ms → (s p : ℕ) → s < 64 → p < 64 → get_or ms s 0 ≤ get_or ms p 0 + 4609
near_all ms near s p a b = near 6 s p (a, b, meet_six s p)

lesser_near : (m a b x y : ℕ) → a ≤ x + m → b ≤ y + m → cond (ltb b a) b a ≤ cond (ltb y x) y x + m
lesser_near m a b x y p q = grind (arith, nat_tests)

-- one more step keeps them as near
pub near_next : (cost : ℕ → ℕ) → ((w : ℕ) → cost w ≤ 384) → (less : ℕ) (ms next : List ℕ) (d : ℕ) → Near ms → Selected cost less ms next d → Near next
unfolding Meet
near_next cost below less ms next d near h zero s p (a, b, m) = omega (arith, ap (λ k. get_or next k 0) m)
near_next cost below less ms next d near h (suc k) s p (a, b, m) =
    let e : (x : Bool) → through cost ms s x ≤ through cost ms p x + (far + suc k * 384) =
    λ x. omega (arith, near k (before s x) (before p x) (omega arith, omega arith, m x), below (2 * s + bit x)) in
    omega (arith, h.least s a, h.least p b, lesser_near (far + suc k * 384) (through cost ms s false) (through cost ms s true) (through cost ms p false) (through cost ms p true) (e false) (e true))

pub grows : (cost : ℕ → ℕ) → ((w : ℕ) → cost w ≤ 384) → (ms next : List ℕ) (d : ℕ) → Selected cost 0 ms next d → get_or next 0 0 ≤ get_or ms 0 0 + 384
grows cost below ms next d h = grind (arith, nat_tests, h.least 0 (omega arith), below 0, below 1)

pub near_start : Near (set (replicate 64 2305) 0 0)
near_start k s p h = omega (arith, start_le s)
  where
    start_le : (s : ℕ) → get_or (set (replicate 64 2305) 0 0) s 0 ≤ 2305
    start_le zero = omega arith
    start_le (suc s) = elim (cases_lt s 63) [ inl l ↦ rw (get_or-replicate {A = ℕ} 63 s 2305 0 l) (omega arith) | inr g ↦ rw (get_or_past (replicate {A = ℕ} 63 2305) s 0 g) (omega arith) ]
