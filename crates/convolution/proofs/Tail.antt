-- Where only zeros can stand in the oldest k places, the least word has them there.
use Rattle.std.proofs.Common.{◌≡◌, ℕ, zero, suc, ◌+◌, ◌<◌, Bool, true, false, cond, ltb, [], ◌∷◌, ◌++◌, length, refl, ap, suc-add, zero-add, arith}
use Rattle.std.proofs.lemmas.Bool.{cond-false, le-ltb, false≢true}
use Rattle.convolution.specs.Code.{Word, zeros}
use Rattle.convolution.specs.Cost.{best}
use Rattle.convolution.specs.Trellis.{before}
use Rattle.convolution.proofs.Survivor.{way, best-length}

best-zeros : (k : ℕ) (f : Word → ℕ) → ((z : Word) → length z ≡ k → (z ≡ zeros k → ⊥) → f (zeros k) < f z) → best k f ≡ zeros k
unfolding best
best-zeros zero f h = refl
best-zeros (suc k) f h =
    let r = best k (λ u. f (true ∷ u)) in
    let e : best k (λ u. f (false ∷ u)) ≡ zeros k = best-zeros k (λ u. f (false ∷ u)) (λ z l ne. h (false ∷ z) (ap suc l) (λ p. ne (cc))) in
    let more : f (false ∷ zeros k) < f (true ∷ r) = h (true ∷ r) (ap suc (best-length k (λ u. f (true ∷ u)))) (λ p. false≢true (cc)) in
    rw e (cond-false (ltb (f (true ∷ r)) (f (false ∷ zeros k))) (true ∷ r) (false ∷ zeros k) (le-ltb (f (true ∷ r)) (f (false ∷ zeros k)) (omega arith)))

cond-append : (t : Bool) (x y z : Word) → cond t (x ++ z) (y ++ z) ≡ cond t x y ++ z
cond-append true x y z = refl
cond-append false x y z = refl

pub best_tail : (n k : ℕ) (f : Word → ℕ) → ((v z : Word) → length v ≡ n → length z ≡ k → (z ≡ zeros k → ⊥) → f (v ++ zeros k) < f (v ++ z)) → best (n + k) f ≡ best n (λ v. f (v ++ zeros k)) ++ zeros k
unfolding best
best_tail zero k f h = rw zero-add (best-zeros k f (λ z l ne. h [] z refl l ne))
best_tail (suc n) k f h =
    let each : (d : Bool) → best (n + k) (λ u. f (d ∷ u)) ≡ best n (λ v. f (d ∷ (v ++ zeros k))) ++ zeros k =
    λ d. best_tail n k (λ u. f (d ∷ u)) (λ v z l. h (d ∷ v) z (ap suc l)) in
    let a : Word = false ∷ best n (λ v. f (false ∷ (v ++ zeros k))) in
    let b : Word = true ∷ best n (λ v. f (true ∷ (v ++ zeros k))) in
    rw (suc-add, each false, each true) (cond-append (ltb (f (b ++ zeros k)) (f (a ++ zeros k))) b a (zeros k))

-- the same bits in front keep an order of the ways
pub way-front : (cost : ℕ → ℕ → ℕ) (k : ℕ) (y z : Word) → ((s : ℕ) → way cost k s y < way cost k s z) → (n : ℕ) (v : Word) → length v ≡ n → (s : ℕ) → way cost (n + k) s (v ++ y) < way cost (n + k) s (v ++ z)
unfolding way
way-front cost k y z h zero [] e s = rw zero-add (h s)
way-front cost k y z h zero (d ∷ v) e s = absurd (omega arith)
way-front cost k y z h (suc n) [] e s = absurd (omega arith)
way-front cost k y z h (suc n) (d ∷ v) e s = rw suc-add (let l : length v ≡ n = omega arith in omega (arith, way-front cost k y z h n v l (before s d)))
