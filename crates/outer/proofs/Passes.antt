-- The decoder's parts, computed on numbers, are those of the field.
use Rattle.std.proofs.Common.{◌≡◌, ℕ, suc, ◌+◌, ◌-◌, ◌*◌, ◌<◌, List, [], ◌∷◌, map, get_or, sym, refl, ap, ◌∙◌, ap₂, zero-add as zero-plus, add-one, arith}
use Rattle.std.proofs.lemmas.Nat.{xor_of_8}
use mathlib.Core.Path.{fun_ext}
use Rattle.galois.proofs.Lifts.{lift_zero, lift_one, lift_xor, lift_mul, lift_inv}
use Rattle.galois.specs.Bytes.{lift, ByteField, FieldRule, lifted, power}
use Rattle.outer.specs.ByteLists.{Bytes}
use Rattle.outer.specs.Decoding.{locator, polynomial_at, applied, others, sequence, passed, passes, differences, error_value}
use Rattle.outer.proofs.Series.{pow, eval, dot, turned, factors}
use Rattle.outer.proofs.Moments.{eval_nil, eval_cons, dot_nil, dot_cons, pow-pow}
use Rattle.outer.proofs.Bytewise.{power_small, lift-power, locator_small, lift-locator}

module _ (f : ByteField) (rule : FieldRule f) where
  open lifted f rule use {zero as 𝟘, one as 𝟙, add as ◌⊕◌, mul as ◌⊗◌, inv}

  infixl 60 ◌⊕◌
  infixl 70 ◌⊗◌
  pub polynomial_small : (cs : List ℕ) (x : ℕ) → Bytes cs → x < 256 → polynomial_at f cs x < 256
  unfolding polynomial_at
  polynomial_small [] x h k = omega arith
  polynomial_small (c ∷ cs) x h k = xor_of_8 c _ (h 0) (rule.mul_small x _ k (polynomial_small cs x (λ i. h (suc i)) k))

  pub lift-polynomial : (cs : List ℕ) (x : ℕ) → Bytes cs → x < 256 → lift (polynomial_at f cs x) ≡ eval (lifted f rule) (map lift cs) (lift x)
  unfolding polynomial_at
  lift-polynomial [] x h k = lift_zero f rule ∙ sym (eval_nil (lifted f rule) (lift x))
  lift-polynomial (c ∷ cs) x h k =
      let rest = polynomial_at f cs x in
      lift_xor f rule c (f.mul x rest)
      ∙ ap (λ u. lift c ⊕ u) (lift_mul f rule x rest k (polynomial_small cs x (λ i. h (suc i)) k) ∙ ap (λ u. lift x ⊗ u) (lift-polynomial cs x (λ i. h (suc i)) k))
      ∙ sym (eval_cons (lifted f rule) (lift c) (map lift cs) (lift x))

  pub lift-applied : (cs s : List ℕ) (j : ℕ) → Bytes cs → Bytes s → lift (applied f cs s j) ≡ dot (lifted f rule) (map lift cs) (λ i. lift (get_or s (i + j) 0))
  unfolding applied
  lift-applied [] s j h k = lift_zero f rule ∙ sym (dot_nil (lifted f rule) (λ i. lift (get_or s (i + j) 0)))
  lift-applied (c ∷ cs) s j h k =
      let F = lifted f rule in
      let later : (λ i. lift (get_or s (i + (j + 1)) 0)) ≡ (λ i. lift (get_or s (suc i + j) 0))
      = fun_ext (λ i. let e : i + (j + 1) ≡ suc i + j = omega arith in ap (λ m. lift (get_or s m 0)) e) in
      lift_xor f rule (f.mul c (get_or s j 0)) (applied f cs s (j + 1))
      ∙ ap₂ ◌⊕◌ (lift_mul f rule c (get_or s j 0) (h 0) (k j) ∙ ap (λ m. lift c ⊗ lift (get_or s m 0)) (sym (zero-plus j)))
      (lift-applied cs s (j + 1) (λ i. h (suc i)) k ∙ ap (dot F (map lift cs)) later)
      ∙ sym (dot_cons F (lift c) (map lift cs) (λ i. lift (get_or s (i + j) 0)))

  pub passed_small : (x : ℕ) (s : ℕ → ℕ) (j : ℕ) → x < 256 → ((i : ℕ) → s i < 256) → passed f x s j < 256
  unfolding passed
  passed_small x s j h k = xor_of_8 _ _ (k (j + 1)) (rule.mul_small x (s j) h (k j))

  pub passes_small : (n : ℕ) (qs : List ℕ) (s : ℕ → ℕ) (j : ℕ) → ((i : ℕ) → s i < 256) → passes f n qs s j < 256
  unfolding passes
  passes_small n [] s j h = h j
  passes_small n (q ∷ qs) s j h = passes_small n qs (passed f (locator f n q) s) j (λ i. passed_small (locator f n q) s i (locator_small f rule n q) h)

  lift-passed : (x : ℕ) (s : ℕ → ℕ) (j : ℕ) → x < 256 → ((i : ℕ) → s i < 256) → lift (passed f x s j) ≡ lift (s (suc j)) ⊕ lift x ⊗ lift (s j)
  unfolding passed
  lift-passed x s j h k = lift_xor f rule (s (j + 1)) (f.mul x (s j)) ∙ ap₂ ◌⊕◌ (ap (λ i. lift (s i)) (add-one j)) (lift_mul f rule x (s j) h (k j))

  pub lift-passes : (n : ℕ) (qs : List ℕ) (s : ℕ → ℕ) (j : ℕ) → ((i : ℕ) → s i < 256)
      → lift (passes f n qs s j) ≡ turned (lifted f rule) (λ p. lift (locator f n p)) qs (λ i. lift (s i)) j
  unfolding passes turned
  lift-passes n [] s j h = refl
  lift-passes n (q ∷ qs) s j h =
      lift-passes n qs (passed f (locator f n q) s) j (λ i. passed_small (locator f n q) s i (locator_small f rule n q) h)
      ∙ ap (λ t. turned (lifted f rule) (λ p. lift (locator f n p)) qs t j) (fun_ext (λ i. lift-passed (locator f n q) s i (locator_small f rule n q) h))

  pub differences_small : (n : ℕ) (qs : List ℕ) (x : ℕ) → x < 256 → differences f n qs x < 256
  unfolding differences
  differences_small n [] x h = omega arith
  differences_small n (q ∷ qs) x h = rule.mul_small _ _ (xor_of_8 x _ h (locator_small f rule n q)) (differences_small n qs x h)

  pub lift-differences : (n : ℕ) (qs : List ℕ) (x : ℕ) → x < 256 → lift (differences f n qs x) ≡ factors (lifted f rule) (λ p. lift (locator f n p)) qs (lift x)
  unfolding differences factors
  lift-differences n [] x h = lift_one f rule
  lift-differences n (q ∷ qs) x h =
      lift_mul f rule _ _ (xor_of_8 x _ h (locator_small f rule n q)) (differences_small n qs x h)
      ∙ ap₂ ◌⊗◌ (lift_xor f rule x (locator f n q)) (lift-differences n qs x h)

  module _ (r n : ℕ) (zs s : List ℕ) (p : ℕ) (h : Bytes s) where
    divisor_small : f.mul (power f ((n - 1 - p) * r)) (differences f n (others p zs) (locator f n p)) < 256
    divisor_small = rule.mul_small _ _ (power_small f rule _) (differences_small n (others p zs) (locator f n p) (locator_small f rule n p))

    pub error_small : error_value f r n zs s p < 256
    unfolding error_value sequence
    error_small = rule.mul_small _ _ (passes_small n (others p zs) (sequence s) 0 h) (rule.inv_small _ divisor_small)

    -- the value of an error, in the field
    pub lift-error : lift (error_value f r n zs s p)
        ≡ turned (lifted f rule) (λ q. lift (locator f n q)) (others p zs) (λ i. lift (get_or s i 0)) 0
        ⊗ inv (pow (lifted f rule) (lift (locator f n p)) r ⊗ factors (lifted f rule) (λ q. lift (locator f n q)) (others p zs) (lift (locator f n p)))
    unfolding error_value sequence
    lift-error =
        let F = lifted f rule in
        let weight : lift (power f ((n - 1 - p) * r)) ≡ pow F (lift (locator f n p)) r
        = lift-power f rule ((n - 1 - p) * r) ∙ sym (pow-pow F (lift 2) (n - 1 - p) r) ∙ ap (λ u. pow F u r) (sym (lift-locator f rule n p)) in
        lift_mul f rule _ _ (passes_small n (others p zs) (sequence s) 0 h) (rule.inv_small _ divisor_small)
        ∙ ap₂ ◌⊗◌ (lift-passes n (others p zs) (sequence s) 0 h)
        (lift_inv f rule _ divisor_small
        ∙ ap inv (lift_mul f rule _ _ (power_small f rule _) (differences_small n (others p zs) (locator f n p) (locator_small f rule n p))
        ∙ ap₂ ◌⊗◌ weight (lift-differences n (others p zs) (locator f n p) (locator_small f rule n p))))
