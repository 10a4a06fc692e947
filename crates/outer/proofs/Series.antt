-- Powers, sums, polynomials and moments over a field.
use Rattle.std.proofs.Common.{◌≡◌, ℕ, zero, suc, Bool, true, false, not, List, [], ◌∷◌, filter}
use Rattle.std.specs.List.{AllByRecursion as All}
use Rattle.galois.specs.Laws.{Field}

module _ {K : Type 0} (F : Field K) where
  open F use {zero as 𝟘, one as 𝟙, add as ◌⊕◌, mul as ◌⊗◌, inv}

  infixl 60 ◌⊕◌
  infixl 70 ◌⊗◌
  -- the product of j factors x
  unfoldable pub pow : K → ℕ → K
  pow x zero = 𝟙
  pow x (suc j) = x ⊗ pow x j

  -- the sum of the values of f over a list
  unfoldable pub sum : {A : Type 0} → List A → (A → K) → K
  sum [] f = 𝟘
  sum (a ∷ rest) f = f a ⊕ sum rest f

  -- the value of a polynomial, lowest coefficient first
  unfoldable pub eval : List K → K → K
  eval [] x = 𝟘
  eval (p ∷ ps) x = p ⊕ x ⊗ eval ps x

  -- the coefficients times the terms of a sequence
  unfoldable pub dot : List K → (ℕ → K) → K
  dot [] s = 𝟘
  dot (p ∷ ps) s = p ⊗ s 0 ⊕ dot ps (λ j. s (suc j))

  -- whether an element is zero
  unfoldable pub is_zero : K → Bool
  is_zero a = elim (F.same a 𝟘) [ yes _ ↦ true | no _ ↦ false ]

  -- terms at places of a type A, with their locators
  module _ {A : Type 0} (X : A → K) where
    -- the sum of the values v, each with the power j of its locator
    unfoldable pub moment : List A → (A → K) → ℕ → K
    moment es v j = sum es (λ e. v e ⊗ pow (X e) j)

    -- locators that differ from one another
    abbrev pub Apart : List A → Type 0
    Apart [] = Unit {0}
    Apart (e ∷ es) = All (λ d. ¬ (X d ≡ X e)) es × Apart es

    -- the places with a value that is not zero
    abbrev pub wrong : (A → K) → List A → List A
    wrong v es = filter (λ e. not (is_zero (v e))) es

    -- the sequence with a pass for each locator
    unfoldable pub turned : List A → (ℕ → K) → ℕ → K
    turned [] s = s
    turned (e ∷ es) s = turned es (λ j. s (suc j) ⊕ X e ⊗ s j)

    -- the product of the differences of x and each locator
    unfoldable pub factors : List A → K → K
    factors [] x = 𝟙
    factors (e ∷ es) x = (x ⊕ X e) ⊗ factors es x
