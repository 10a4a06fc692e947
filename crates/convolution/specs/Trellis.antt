-- The least costs into the states, step after step: a state is the six newest bits, the newest highest.
use Rattle.std.specs.Prelude.{◌≡◌, ℕ, zero, suc, ◌+◌, ◌*◌, ◌/◌, ◌%◌, ◌^◌, ◌<◌, Bool, true, false, cond, List, [], ◌∷◌, ◌==◌, nat_lt, slice_index}
use Rattle.convolution.specs.Code.{Word, bit}

-- `cost t w` is what the window w costs at step t

-- the state before s when the bit d left the window
abbrev pub before : ℕ → Bool → ℕ
before s d = (2 * s + bit d) % 64

-- more than six steps can cost
abbrev pub far : ℕ
far = 2305

-- what a way costs that begins in the state s: nothing from state 0, and from every other more than six steps can
abbrev pub start : ℕ → ℕ
start s = cond (s == 0) 0 far

-- the least cost of a way into s in n steps
unfoldable pub metric : (ℕ → ℕ → ℕ) → ℕ → ℕ → ℕ
metric cost zero s = start s
metric cost (suc n) s =
    let a = metric cost n (before s false) + cost n (2 * s + bit false) in
    let b = metric cost n (before s true) + cost n (2 * s + bit true) in
    cond (nat_lt b a) b a

-- which bit left the window on that way at step n, from 0: the bit 1 if its way costs less
unfoldable pub decision : (ℕ → ℕ → ℕ) → ℕ → ℕ → Bool
decision cost n s = nat_lt (metric cost n (before s true) + cost n (2 * s + bit true)) (metric cost n (before s false) + cost n (2 * s + bit false))

-- bit s of a number
abbrev pub bit_of : ℕ → ℕ → ℕ
bit_of d s = d / 2 ^ s % 2

-- 64 numbers are the least costs into the states after n steps, less a common number
abbrev pub Tracks : (ℕ → ℕ → ℕ) → ℕ → List ℕ → Type 0
Tracks cost n ms = (less : ℕ) × ((s : ℕ) → s < 64 → slice_index ms s + less ≡ metric cost n s)

-- the bits of a number are the decisions of step n
abbrev pub Chose : (ℕ → ℕ → ℕ) → ℕ → ℕ → Type 0
Chose cost n d = (s : ℕ) → s < 64 → bit_of d s ≡ bit (decision cost n s)

-- the bits that leave the window on the way back from s through the decisions of the first n steps, the newest first
unfoldable pub back : List ℕ → ℕ → ℕ → Word
back ds zero s = []
back ds (suc n) s = let d = bit_of (slice_index ds n) s in (d == 1) ∷ back ds n ((2 * s + d) % 64)
