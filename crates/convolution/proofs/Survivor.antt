-- The way that the decisions trace back is the least of all ways into its state.
use Rattle.std.proofs.Common.{◌≡◌, ℕ, zero, suc, ◌+◌, ◌*◌, Bool, true, false, cond, ltb, [], ◌∷◌, length, sym, refl, ap, ◌∙◌, arith}
use Rattle.std.proofs.lemmas.Bool.{cond_both}
use Rattle.std.proofs.lemmas.Bool.Decides.{nat_tests}
use Rattle.convolution.specs.Code.{Word, bit}
use Rattle.convolution.specs.Cost.{best}
use Rattle.convolution.specs.Trellis.{before, start, metric, decision}

-- the cost of the way into s after n steps on which the bits of the word left the window, the last first
unfoldable pub way : (ℕ → ℕ → ℕ) → ℕ → ℕ → Word → ℕ
way cost zero s u = start s
way cost (suc n) s [] = 0
way cost (suc n) s (d ∷ u) = way cost n (before s d) u + cost n (2 * s + bit d)

-- the bits that left on the way that the decisions name, the last first
unfoldable pub trace : (ℕ → ℕ → ℕ) → ℕ → ℕ → Word
trace cost zero s = []
trace cost (suc n) s = decision cost n s ∷ trace cost n (before s (decision cost n s))

ltb_shift : (k a b : ℕ) → ltb (a + k) (b + k) ≡ ltb a b
ltb_shift k a b = grind (arith, nat_tests)

pub best-length : (n : ℕ) (f : Word → ℕ) → length (best n f) ≡ n
unfolding best
best-length zero f = refl
best-length (suc n) f =
    let a : Word = false ∷ best n (λ u. f (false ∷ u)) in
    let b : Word = true ∷ best n (λ u. f (true ∷ u)) in
    cond_both (ltb (f b) (f a)) b a (λ w. length w ≡ suc n) (λ _. ap suc (best-length n (λ u. f (true ∷ u)))) (λ _. ap suc (best-length n (λ u. f (false ∷ u))))

-- a constant more on all words of n bits changes no choice
pub best_like : (n k : ℕ) (f g : Word → ℕ) → ((v : Word) → length v ≡ n → f v ≡ g v + k) → best n f ≡ best n g
unfolding best
best_like zero k f g h = refl
best_like (suc n) k f g h =
    let r = λ (d : Bool). best n (λ u. g (d ∷ u)) in
    let each : (d : Bool) → best n (λ u. f (d ∷ u)) ≡ r d = λ d. best_like n k (λ u. f (d ∷ u)) (λ u. g (d ∷ u)) (λ v l. h (d ∷ v) (ap suc l)) in
    let costs : (d : Bool) → f (d ∷ r d) ≡ g (d ∷ r d) + k = λ d. h (d ∷ r d) (ap suc (best-length n (λ u. g (d ∷ u)))) in
    rw (each false, each true, costs false, costs true) (ap (λ t. cond t (true ∷ r true) (false ∷ r false)) (ltb_shift k (g (true ∷ r true)) (g (false ∷ r false))))

-- a test's answer goes through a function
branch : {X : Type 0} (t : Bool) (g : Bool → X) → g t ≡ cond t (g true) (g false)
branch true g = refl
branch false g = refl

trace_cost : (cost : ℕ → ℕ → ℕ) (n s : ℕ) → way cost n s (trace cost n s) ≡ metric cost n s
unfolding way metric trace decision
trace_cost cost zero s = refl
trace_cost cost (suc n) s =
    let t = decision cost n s in
    ap (λ m. m + cost n (2 * s + bit t)) (trace_cost cost n (before s t)) ∙ branch t (λ d. metric cost n (before s d) + cost n (2 * s + bit d))

pub best-trace : (cost : ℕ → ℕ → ℕ) (n s : ℕ) → best n (way cost n s) ≡ trace cost n s
unfolding best way trace decision
best-trace cost zero s = refl
best-trace cost (suc n) s =
    let w = λ (d : Bool). trace cost n (before s d) in
    let each : (d : Bool) → best n (λ u. way cost n (before s d) u + cost n (2 * s + bit d)) ≡ w d =
    λ d. best_like n (cost n (2 * s + bit d)) (λ u. way cost n (before s d) u + cost n (2 * s + bit d)) (way cost n (before s d)) (λ _ _. refl) ∙ best-trace cost n (before s d) in
    rw (each false, each true, trace_cost cost n (before s false), trace_cost cost n (before s true)) (sym (branch (decision cost n s) (λ d. d ∷ w d)))
