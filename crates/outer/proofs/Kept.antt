-- What holds of each element of a list, and of those that a test keeps.
use Rattle.std.proofs.Common.{◌≡◌, ℕ, zero, suc, ◌+◌, ◌<◌, ◌≤◌, Bool, true, false, cond, ◌&&◌, List, [], ◌∷◌, length, filter, refl, ap, ◌∙◌, ap₂, arith}
use native.Mathlib.Decide.{ℕ_discrete}
use Rattle.std.specs.List.{range_with_len, AllByRecursion as All}
use Rattle.std.proofs.lemmas.Bool.{false≢true}

pub all_both : {A : Type 0} (P Q R : A → Type 0) → ((a : A) → P a → Q a → R a) → (es : List A) → All P es → All Q es → All R es
all_both P Q R f [] p q = tt
all_both P Q R f (e ∷ es) p q = (f e p.0 q.0, all_both P Q R f es p.1 q.1)

pub all_always : {A : Type 0} (P : A → Type 0) → ((a : A) → P a) → (es : List A) → All P es
all_always P f [] = tt
all_always P f (e ∷ es) = (f e, all_always P f es)

pub all_if_kept : {A : Type 0} (t : A → Bool) (P : A → Type 0) (es : List A) → All P (filter t es) → All (λ e. t e ≡ true → P e) es
all_if_kept t P [] h = tt
all_if_kept {A} t P (e ∷ es) h = let w = go (t e) h in (w.0, all_if_kept t P es w.1)
  where
    go : (b : Bool) → All P (cond b (e ∷ filter t es) (filter t es)) → (b ≡ true → P e) × All P (filter t es)
    go true k = (λ _. k.0, k.1)
    go false k = (λ w. absurd (false≢true w), k)

pub either_way : {P : Type 0} (b : Bool) → (b ≡ true → P) → (b ≡ false → P) → P
either_way true f g = f refl
either_way false f g = g refl

-- a test that keeps less
pub kept_fewer : {A : Type 0} (t s : A → Bool) (es : List A) → All (λ e. t e ≡ true → s e ≡ true) es → length (filter t es) ≤ length (filter s es)
kept_fewer t s [] h = omega arith
kept_fewer {A} t s (e ∷ es) h = go (t e) (s e) h.0 (kept_fewer t s es h.1)
  where
    go : (b c : Bool) → (b ≡ true → c ≡ true) → length (filter t es) ≤ length (filter s es)
        → length (cond b (e ∷ filter t es) (filter t es)) ≤ length (cond c (e ∷ filter s es) (filter s es))
    go true true k ih = omega arith
    go true false k ih = absurd (false≢true (k refl))
    go false true k ih = omega arith
    go false false k ih = ih

-- tests that agree on a list keep the same
pub kept_same : {A : Type 0} (t s : A → Bool) (es : List A) → All (λ e. t e ≡ s e) es → filter t es ≡ filter s es
kept_same t s [] h = refl
kept_same t s (e ∷ es) h = ap₂ (λ b l. cond b (e ∷ l) l) h.0 (kept_same t s es h.1)

-- one test after another keeps what passes both
pub kept_both : {A : Type 0} (t s : A → Bool) (es : List A) → filter s (filter t es) ≡ filter (λ e. t e && s e) es
kept_both t s [] = refl
kept_both {A} t s (e ∷ es) = go (t e) (s e) (kept_both t s es)
  where
    go : (b c : Bool) → filter s (filter t es) ≡ filter (λ x. t x && s x) es
        → filter s (cond b (e ∷ filter t es) (filter t es)) ≡ cond (b && s e) (e ∷ filter (λ x. t x && s x) es) (filter (λ x. t x && s x) es)
    go true c ih = ap (λ l. cond (s e) (e ∷ l) l) ih
    go false c ih = ih

kept_none : (t : ℕ → Bool) (a n p : ℕ) → p < a → ((q : ℕ) → ¬ (q ≡ p) → t q ≡ false) → filter t (range_with_len a n) ≡ []
kept_none t a zero p h no_other = refl
kept_none t a (suc n) p h no_other =
    ap (λ b. cond b (a ∷ filter t (range_with_len (a + 1) n)) (filter t (range_with_len (a + 1) n))) (no_other a (λ e. omega arith)) ∙ kept_none t (a + 1) n p (omega arith) no_other

-- a test that only one place passes keeps that place alone
pub kept_alone : (t : ℕ → Bool) (a n p : ℕ) → a ≤ p → p < a + n → t p ≡ true → ((q : ℕ) → ¬ (q ≡ p) → t q ≡ false) → filter t (range_with_len a n) ≡ p ∷ []
kept_alone t a zero p h k yes-here no_other = absurd (omega arith)
kept_alone t a (suc n) p h k yes-here no_other = go (ℕ_discrete a p) (λ l. kept_alone t (a + 1) n p l (omega arith) yes-here no_other)
  where
    go : Dec (a ≡ p) → (a + 1 ≤ p → filter t (range_with_len (a + 1) n) ≡ p ∷ []) → cond (t a) (a ∷ filter t (range_with_len (a + 1) n)) (filter t (range_with_len (a + 1) n)) ≡ p ∷ []
    go (yes e) ih =
        ap (λ b. cond b (a ∷ filter t (range_with_len (a + 1) n)) (filter t (range_with_len (a + 1) n))) (ap t e ∙ yes-here)
        ∙ ap₂ ◌∷◌ e (kept_none t (a + 1) n p (omega arith) no_other)
    go (no e) ih = ap (λ b. cond b (a ∷ filter t (range_with_len (a + 1) n)) (filter t (range_with_len (a + 1) n))) (no_other a e) ∙ ih (omega arith)
