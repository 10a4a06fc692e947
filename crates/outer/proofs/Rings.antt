-- The laws of a field of characteristic two.
use Rattle.std.proofs.Common.{◌≡◌, Bool, true, false, sym, ap, ◌∙◌, ap₂}
use Rattle.std.proofs.lemmas.Bool.{true≢false, false≢true}
use Rattle.galois.specs.Laws.{Field}
use Rattle.outer.proofs.Series.{is_zero}

module _ {K : Type 0} (F : Field K) where
  open F use {zero as 𝟘, one as 𝟙, add as ◌⊕◌, mul as ◌⊗◌, inv}

  infixl 60 ◌⊕◌
  infixl 70 ◌⊗◌
  -- the laws, under names that a ruleset takes
  pub add_assoc : (a b c : K) → (a ⊕ b) ⊕ c ≡ a ⊕ (b ⊕ c)
  add_assoc = F.add_assoc

  pub add_comm : (a b : K) → a ⊕ b ≡ b ⊕ a
  add_comm = F.add_comm

  pub add_zero : (a : K) → a ⊕ 𝟘 ≡ a
  add_zero = F.add_zero

  pub add_self : (a : K) → a ⊕ a ≡ 𝟘
  add_self = F.add_self

  pub mul_assoc : (a b c : K) → (a ⊗ b) ⊗ c ≡ a ⊗ (b ⊗ c)
  mul_assoc = F.mul_assoc

  pub mul_comm : (a b : K) → a ⊗ b ≡ b ⊗ a
  mul_comm = F.mul_comm

  pub mul_one : (a : K) → a ⊗ 𝟙 ≡ a
  mul_one = F.mul_one

  pub distrib : (a b c : K) → a ⊗ (b ⊕ c) ≡ a ⊗ b ⊕ a ⊗ c
  distrib = F.distrib

  pub zero_add : (a : K) → 𝟘 ⊕ a ≡ a
  zero_add a = add_comm 𝟘 a ∙ add_zero a

  pub add_left_comm : (a b c : K) → a ⊕ (b ⊕ c) ≡ b ⊕ (a ⊕ c)
  add_left_comm a b c = sym (add_assoc a b c) ∙ ap (λ x. x ⊕ c) (add_comm a b) ∙ add_assoc b a c

  pub mul_left_comm : (a b c : K) → a ⊗ (b ⊗ c) ≡ b ⊗ (a ⊗ c)
  mul_left_comm a b c = sym (mul_assoc a b c) ∙ ap (λ x. x ⊗ c) (mul_comm a b) ∙ mul_assoc b a c

  pub one_mul : (a : K) → 𝟙 ⊗ a ≡ a
  one_mul a = mul_comm 𝟙 a ∙ mul_one a

  pub add_twice : (a b : K) → a ⊕ (a ⊕ b) ≡ b
  add_twice a b = sym (add_assoc a a b) ∙ ap (λ x. x ⊕ b) (add_self a) ∙ zero_add b

  pub mul_zero : (a : K) → a ⊗ 𝟘 ≡ 𝟘
  mul_zero a = ap (λ x. a ⊗ x) (sym (add_self 𝟘)) ∙ distrib a 𝟘 𝟘 ∙ add_self (a ⊗ 𝟘)

  pub zero_mul : (a : K) → 𝟘 ⊗ a ≡ 𝟘
  zero_mul a = mul_comm 𝟘 a ∙ mul_zero a

  pub distrib_right : (a b c : K) → (a ⊕ b) ⊗ c ≡ a ⊗ c ⊕ b ⊗ c
  distrib_right a b c = mul_comm (a ⊕ b) c ∙ distrib c a b ∙ simp mul_comm

  -- both sides of an equation of a commutative ring of characteristic two come to one form
  pub ruleset ring = (add_assoc, add_comm, add_left_comm, add_zero, zero_add, add_self, add_twice, mul_assoc, mul_comm, mul_left_comm, mul_one, one_mul, mul_zero, zero_mul, distrib, distrib_right)

  -- no zero divisors
  pub cancel : (a b : K) → ¬ (a ≡ 𝟘) → a ⊗ b ≡ 𝟘 → b ≡ 𝟘
  cancel a b h e =
      sym (one_mul b) ∙ ap (λ x. x ⊗ b) (sym (F.inverse a h)) ∙ (simp ring) ∙ ap (λ x. inv a ⊗ x) e ∙ mul_zero (inv a)

  pub same_from_sum : (a b : K) → a ⊕ b ≡ 𝟘 → a ≡ b
  same_from_sum a b e = sym (add_zero a) ∙ ap (λ x. a ⊕ x) (sym (add_self b)) ∙ sym (add_assoc a b b) ∙ ap (λ x. x ⊕ b) e ∙ zero_add b

  pub cancel_right : (a b y : K) → ¬ (y ≡ 𝟘) → a ⊗ y ≡ b ⊗ y → a ≡ b
  cancel_right a b y h e = same_from_sum a b (cancel y (a ⊕ b) h (distrib y a b ∙ ap₂ ◌⊕◌ (mul_comm y a ∙ e) (mul_comm y b) ∙ add_self (b ⊗ y)))

  pub is_zero_says : (a : K) → (is_zero F a ≡ true → a ≡ 𝟘) × (is_zero F a ≡ false → ¬ (a ≡ 𝟘))
  unfolding is_zero
  is_zero_says a = go (F.same a 𝟘)
    where
      test : Dec (a ≡ 𝟘) → Bool
      test d = elim d [ yes _ ↦ true | no _ ↦ false ]

      go : (d : Dec (a ≡ 𝟘)) → (test d ≡ true → a ≡ 𝟘) × (test d ≡ false → ¬ (a ≡ 𝟘))
      go (yes h) = (λ _. h, λ w. absurd (true≢false w))
      go (no h) = (λ w. absurd (false≢true w), λ _. h)

  pub is_zero_true : (a : K) → is_zero F a ≡ true → a ≡ 𝟘
  is_zero_true a = (is_zero_says a).0

  pub is_zero_false : (a : K) → is_zero F a ≡ false → ¬ (a ≡ 𝟘)
  is_zero_false a = (is_zero_says a).1

  -- three sums in another order
  pub one_more_power : (v b x y t : K) → (v ⊗ x ⊕ b) ⊗ y ⊕ t ≡ v ⊗ (x ⊗ y) ⊕ (b ⊗ y ⊕ t)
  one_more_power v b x y t = simp ring

  -- a difference, times what it is divided by
  pub divided : (a b y g : K) → ¬ (y ⊗ g ≡ 𝟘) → ((a ⊗ y ⊕ b ⊗ y) ⊗ g) ⊗ inv (y ⊗ g) ≡ a ⊕ b
  divided a b y g h =
      let d = y ⊗ g in
      let whole : (a ⊗ y ⊕ b ⊗ y) ⊗ g ≡ (a ⊕ b) ⊗ d = simp ring in
      ap (λ u. u ⊗ inv d) whole ∙ mul_assoc (a ⊕ b) d (inv d) ∙ ap (λ u. (a ⊕ b) ⊗ u) (F.inverse d h) ∙ mul_one (a ⊕ b)

  pub added_back : (a b : K) → b ⊕ (a ⊕ b) ≡ a
  added_back a b = simp ring
