-- The laws of hard and soft readings.
use Rattle.std.specs.Prelude.{◌≡◌, ℕ, zero, suc, ◌-◌, ◌<◌, ◌≤◌, Bool, true, false, not, ◌⊎◌, ℤ, pos, negsuc, Some, None, Option, int_lt, unsigned_abs, refl}
use Rattle.std.proofs.Common.{inl, inr, arith, lit≤, ltb-false}
use mir.Val.{bool_byte}
use Rattle.readings.specs.Readings.{by_mark, hard_cost, soft_cost, clean_hard, clean_soft}

-- what bounds both costs bounds the cost of any mark
by_mark_le : (p q b m : ℕ) → p ≤ b → q ≤ b → by_mark p q m ≤ b
unfolding by_mark
by_mark_le p q b zero h k = h
by_mark_le p q b (suc m) h k = k

-- no cost of a hard reading passes 128
pub hard_bounded : (r : Option Bool) (m : ℕ) → hard_cost r m ≤ 128
unfolding hard_cost
hard_bounded None m = by_mark_le 0 0 128 m (lit≤ tt) (lit≤ tt)
hard_bounded (Some false) m = by_mark_le 0 1 128 m (lit≤ tt) (lit≤ tt)
hard_bounded (Some true) m = by_mark_le 1 0 128 m (lit≤ tt) (lit≤ tt)

-- no cost of a soft reading passes 128
pub soft_bounded : (r : ℤ) (m : ℕ) → soft_cost r m ≤ 128
unfolding soft_cost
soft_bounded (pos n) m = by_mark_le 0 _ 128 m (lit≤ tt) (omega arith)
soft_bounded (negsuc n) m = by_mark_le _ 0 128 m (omega arith) (lit≤ tt)

-- one of the two costs of a hard reading is 0
pub hard_free : (r : Option Bool) → (hard_cost r 0 ≡ 0) ⊎ (hard_cost r 1 ≡ 0)
unfolding by_mark hard_cost
hard_free None = inl refl
hard_free (Some false) = inl refl
hard_free (Some true) = inr refl

-- one of the two costs of a soft reading is 0
pub soft_free : (r : ℤ) → (soft_cost r 0 ≡ 0) ⊎ (soft_cost r 1 ≡ 0)
unfolding by_mark soft_cost
soft_free (pos n) = inl refl
soft_free (negsuc n) = inr refl

-- a clean hard reading costs nothing for its mark
pub clean_hard-free : (m : ℕ) → hard_cost (clean_hard m) m ≡ 0
unfolding by_mark hard_cost clean_hard
clean_hard-free zero = refl
clean_hard-free (suc m) = refl

-- a clean soft reading costs nothing for its mark
pub clean_soft-free : (m : ℕ) → soft_cost (clean_soft m) m ≡ 0
unfolding by_mark soft_cost clean_soft
clean_soft-free zero = refl
clean_soft-free (suc m) = refl

-- a clean hard reading costs something for the other mark
pub clean_hard-dear : (m : ℕ) → m < 2 → 1 ≤ hard_cost (clean_hard m) (1 - m)
unfolding by_mark hard_cost clean_hard
clean_hard-dear zero h = lit≤ tt
clean_hard-dear (suc zero) h = lit≤ tt
clean_hard-dear (suc (suc m)) h = absurd (omega arith)

-- a clean soft reading costs something for the other mark
pub clean_soft-dear : (m : ℕ) → m < 2 → 1 ≤ soft_cost (clean_soft m) (1 - m)
unfolding by_mark soft_cost clean_soft
clean_soft-dear zero h = lit≤ tt
clean_soft-dear (suc zero) h = lit≤ tt
clean_soft-dear (suc (suc m)) h = absurd (omega arith)

-- a hard reading of a mark costs 1 for the other
pub hard_costs : (mark : Bool) → (bool_byte mark ≡ hard_cost (Some mark) 0) × (bool_byte (not mark) ≡ hard_cost (Some mark) 1)
unfolding by_mark hard_cost
hard_costs false = (refl, refl)
hard_costs true = (refl, refl)

-- an absent hard reading costs nothing
pub absent_costs : (0 ≡ hard_cost None 0) × (0 ≡ hard_cost None 1)
unfolding by_mark hard_cost
absent_costs = (refl, refl)

-- a soft reading above zero costs its size for mark 1
pub above_costs : (r : ℤ) (size : ℕ) → size ≡ unsigned_abs r → size ≤ 128 → int_lt (pos 0) r ≡ true → (0 ≡ soft_cost r 0) × (size ≡ soft_cost r 1)
unfolding by_mark soft_cost
above_costs (pos n) size e b t = (refl, omega arith)
above_costs (negsuc n) size e b t = let z : ◌≡◌ {A = ℕ} 0 1 = cc in absurd (omega arith)

-- a soft reading at or below zero costs its size for mark 0
pub below_costs : (r : ℤ) (size : ℕ) → size ≡ unsigned_abs r → size ≤ 128 → int_lt (pos 0) r ≡ false → (size ≡ soft_cost r 0) × (0 ≡ soft_cost r 1)
unfolding by_mark soft_cost
below_costs (pos n) size e b t = let none : n ≡ 0 = omega (arith, ltb-false) in (omega arith, omega arith)
below_costs (negsuc n) size e b t = (omega arith, refl)
