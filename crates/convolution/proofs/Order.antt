-- `best` is the least of all words, by cost and then by the newest bit where two differ.
use Rattle.std.proofs.Common.{◌≡◌, ℕ, zero, suc, ◌<◌, ◌≤◌, Bool, true, false, ltb, ◌⊎◌, [], ◌∷◌, ◌++◌, length, refl, ap, inl, inr, arith}
use Rattle.std.proofs.lemmas.Bool.{cond_both, ltb-true, ltb-false, cases_order}
use Rattle.convolution.specs.Code.{Word}
use Rattle.convolution.specs.Cost.{best}

-- a has 0 and b has 1 at the newest place where they differ
abbrev pub Lower : Word → Word → Type 0
Lower a b = (c x y : Word) × (a ≡ c ++ (false ∷ x)) × (b ≡ c ++ (true ∷ y))

-- a is b, costs less, or costs the same and is the lower
abbrev pub Before : (Word → ℕ) → Word → Word → Type 0
Before f a b = (f a < f b) ⊎ ((f a ≡ f b) × ((a ≡ b) ⊎ Lower a b))

before_cons : (f : Word → ℕ) (d : Bool) (a b : Word) → Before (λ u. f (d ∷ u)) a b → Before f (d ∷ a) (d ∷ b)
before_cons f d a b (inl h) = inl h
before_cons f d a b (inr (e, inl s)) = inr (e, inl (ap (λ u. d ∷ u) s))
before_cons f d a b (inr (e, inr (c, x, y, p, q))) = inr (e, inr (d ∷ c, x, y, ap (λ u. d ∷ u) p, ap (λ u. d ∷ u) q))

before_le : (f : Word → ℕ) (a b : Word) → Before f a b → f a ≤ f b
before_le f a b (inl h) = omega arith
before_le f a b (inr (e, h)) = omega arith

before_lower : (f : Word → ℕ) (a b : Word) → f a ≤ f b → Lower a b → Before f a b
before_lower f a b h l = elim (cases_order (f a) (f b)) [ inl e ↦ inr (e, inr l) | inr (inl k) ↦ inl k | inr (inr k) ↦ absurd (omega arith) ]

pub best-before : (n : ℕ) (f : Word → ℕ) (v : Word) → length v ≡ n → Before f (best n f) v
unfolding best
best-before zero f [] e = inr (refl, inl refl)
best-before zero f (d ∷ v) e = absurd (omega arith)
best-before (suc n) f [] e = absurd (omega arith)
best-before (suc n) f (false ∷ v) e =
    let a : Word = false ∷ best n (λ u. f (false ∷ u)) in
    let b : Word = true ∷ best n (λ u. f (true ∷ u)) in
    let l : length v ≡ n = omega arith in
    let h = before_cons f false (best n (λ u. f (false ∷ u))) v (best-before n (λ u. f (false ∷ u)) v l) in
    cond_both (ltb (f b) (f a)) b a (λ w. Before f w (false ∷ v)) (λ t. inl (omega (arith, ltb-true (f b) (f a) t, before_le f a (false ∷ v) h))) (λ _. h)
best-before (suc n) f (true ∷ v) e =
    let a : Word = false ∷ best n (λ u. f (false ∷ u)) in
    let b : Word = true ∷ best n (λ u. f (true ∷ u)) in
    let l : length v ≡ n = omega arith in
    let h = before_cons f true (best n (λ u. f (true ∷ u))) v (best-before n (λ u. f (true ∷ u)) v l) in
    cond_both (ltb (f b) (f a)) b a (λ w. Before f w (true ∷ v)) (λ _. h)
    (λ t. before_lower f a (true ∷ v) (omega (arith, ltb-false (f b) (f a) t, before_le f b (true ∷ v) h)) ([], best n (λ u. f (false ∷ u)), v, refl, refl))
