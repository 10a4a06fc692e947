-- Search by exhaustion over lists of bytes.
use Rattle.std.specs.Prelude.{ℕ, zero, suc, Bool, cond, List, [], ◌∷◌, Some, None, Option}

-- the first answer of two
abbrev pub first_of : {A : Type 0} → Option A → Option A → Option A
first_of (Some a) later = Some a
first_of None later = later

-- the first answer among g 0, g 1, .. , g (m - 1)
unfoldable pub first_below : {A : Type 0} → ℕ → (ℕ → Option A) → Option A
first_below zero g = None
first_below (suc m) g = first_of (first_below m g) (g m)

-- an answer with one more byte in front of it
abbrev pub in_front : ℕ → Option (List ℕ) → Option (List ℕ)
in_front b (Some xs) = Some (b ∷ xs)
in_front b None = None

-- the first list of n bytes that passes a test, or none
unfoldable pub first_list : ℕ → (List ℕ → Bool) → Option (List ℕ)
first_list zero t = cond (t []) (Some []) None
first_list (suc n) t = first_below 256 (λ b. in_front b (first_list n (λ xs. t (b ∷ xs))))
