-- What the answer of a search by exhaustion says.
use Rattle.std.proofs.Common.{◌≡◌, ℕ, zero, suc, ◌<◌, Bool, true, false, cond, List, [], ◌∷◌, length, Some, None, Option, refl, ap, ◌∙◌, subst, arith}
use native.Mathlib.Decide.{ℕ_discrete}
use Rattle.std.proofs.lemmas.List.{nil_from_length}
use Rattle.std.proofs.lemmas.Bool.{both_ways}
use Rattle.std.proofs.lemmas.Option.{same_Some}
use Rattle.outer.specs.ByteLists.{Bytes}
use Rattle.outer.specs.Exhaustion.{first_of, first_below, in_front, first_list}
use Rattle.outer.proofs.Bytewise.{bytes_cons}

none_not_some : {A : Type 0} {P : Type 0} {o : Option A} {a : A} → o ≡ None → o ≡ Some a → P
none_not_some p q = absurd (let z : ◌≡◌ {A = ℕ} 0 1 = cc in omega arith)

first_below_some : {A : Type 0} (m : ℕ) (g : ℕ → Option A) (a : A) → first_below m g ≡ Some a → (b : ℕ) × (b < m) × (g b ≡ Some a)
unfolding first_below
first_below_some zero g a e = none_not_some refl e
first_below_some {A} (suc m) g a e = go (first_below m g) refl e (first_below_some m g a)
  where
    go : (o : Option A) → first_below m g ≡ o → first_of o (g m) ≡ Some a → (first_below m g ≡ Some a → (b : ℕ) × (b < m) × (g b ≡ Some a))
        → (b : ℕ) × (b < suc m) × (g b ≡ Some a)
    go (Some x) q d earlier = let (b, h, k) = earlier (q ∙ d) in (b, omega arith, k)
    go None q d earlier = (m, omega arith, d)

first_below_none : {A : Type 0} (m : ℕ) (g : ℕ → Option A) → first_below m g ≡ None → (b : ℕ) → b < m → g b ≡ None
unfolding first_below
first_below_none zero g e b h = absurd (omega arith)
first_below_none {A} (suc m) g e b h = go (first_below m g) refl e (ℕ_discrete b m) (λ q k. first_below_none m g q b k)
  where
    go : (o : Option A) → first_below m g ≡ o → first_of o (g m) ≡ None → Dec (b ≡ m) → (first_below m g ≡ None → b < m → g b ≡ None) → g b ≡ None
    go (Some x) q d w earlier = none_not_some d refl
    go None q d (yes w) earlier = ap g w ∙ d
    go None q d (no w) earlier = earlier q (omega arith)

-- a list of n bytes that passes, or none of them does
abbrev pub Answer : ℕ → (List ℕ → Bool) → Option (List ℕ) → Type 0
Answer n t (Some xs) = (length xs ≡ n) × Bytes xs × (t xs ≡ true)
Answer n t None = (xs : List ℕ) → length xs ≡ n → Bytes xs → t xs ≡ false

front_some : (n : ℕ) (t : List ℕ → Bool) (b : ℕ) (xs : List ℕ) (o : Option (List ℕ)) → b < 256 → Answer n (λ ys. t (b ∷ ys)) o → in_front b o ≡ Some xs → Answer (suc n) t (Some xs)
front_some n t b xs (Some ys) h a q = subst (λ l. Answer (suc n) t (Some l)) (same_Some _ _ q) (ap suc a.0, bytes_cons b ys h a.1, a.2)
front_some n t b xs None h a q = none_not_some refl q

front_none : (n : ℕ) (t : List ℕ → Bool) (b : ℕ) (o : Option (List ℕ)) → Answer n (λ ys. t (b ∷ ys)) o → in_front b o ≡ None
    → (ys : List ℕ) → length ys ≡ n → Bytes ys → t (b ∷ ys) ≡ false
front_none n t b (Some xs) a q = none_not_some q refl
front_none n t b None a q = a

pub first_list_says : (n : ℕ) (t : List ℕ → Bool) → Answer n t (first_list n t)
unfolding first_list
first_list_says zero t = go (t []) refl
  where
    go : (b : Bool) → t [] ≡ b → Answer 0 t (cond b (Some []) None)
    go true q = (refl, λ k. omega arith, q)
    go false q = λ xs h k. ap t (nil_from_length xs h) ∙ q
first_list_says (suc n) t = go (λ b. first_list_says n (λ xs. t (b ∷ xs))) (first_below 256 g) refl
  where
    g : ℕ → Option (List ℕ)
    g b = in_front b (first_list n (λ xs. t (b ∷ xs)))

    none : ((b : ℕ) → Answer n (λ xs. t (b ∷ xs)) (first_list n (λ xs. t (b ∷ xs)))) → first_below 256 g ≡ None
        → (xs : List ℕ) → length xs ≡ suc n → Bytes xs → t xs ≡ false
    none says q [] h k = absurd (omega arith)
    none says q (b ∷ ys) h k = front_none n t b (first_list n (λ xs. t (b ∷ xs))) (says b) (first_below_none 256 g q b (k 0)) ys (omega arith) (λ i. k (suc i))

    go : ((b : ℕ) → Answer n (λ xs. t (b ∷ xs)) (first_list n (λ xs. t (b ∷ xs)))) → (o : Option (List ℕ)) → first_below 256 g ≡ o → Answer (suc n) t o
    go says (Some xs) q = let (b, h, k) = first_below_some 256 g xs q in front_some n t b xs (first_list n (λ ys. t (b ∷ ys))) h (says b) k
    go says None q = none says q

pub first_list_some : (n : ℕ) (t : List ℕ → Bool) (xs : List ℕ) → first_list n t ≡ Some xs → (length xs ≡ n) × Bytes xs × (t xs ≡ true)
first_list_some n t xs e = subst (Answer n t) e (first_list_says n t)

-- the only list that passes is the answer
pub first_list_only : (n : ℕ) (t : List ℕ → Bool) (xs : List ℕ) → length xs ≡ n → Bytes xs → t xs ≡ true
    → ((ys : List ℕ) → length ys ≡ n → Bytes ys → t ys ≡ true → ys ≡ xs) → first_list n t ≡ Some xs
first_list_only n t xs h k p only = go (first_list n t) (first_list_says n t)
  where
    go : (o : Option (List ℕ)) → Answer n t o → o ≡ Some xs
    go (Some ys) a = ap Some (only ys a.0 a.1 a.2)
    go None a = absurd (both_ways (t xs) (a xs h k) p)

-- where no list passes there is no answer
pub first_list_none : (n : ℕ) (t : List ℕ → Bool) → ((ys : List ℕ) → length ys ≡ n → Bytes ys → t ys ≡ true → ⊥) → first_list n t ≡ None
first_list_none n t none = go (first_list n t) (first_list_says n t)
  where
    go : (o : Option (List ℕ)) → Answer n t o → o ≡ None
    go (Some ys) a = absurd (none ys a.0 a.1 a.2)
    go None a = refl
