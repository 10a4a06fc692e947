-- The laws of a field of characteristic two.
use Rattle.std.specs.Prelude.{◌≡◌}

-- a field in which every element is its own negative, and whose elements can be told apart
pub record Field (K : Type 0) : Type 0 where
  pub zero : K
  pub one : K
  pub add : K → K → K
  pub mul : K → K → K
  pub inv : K → K
  pub add_assoc : (a b c : K) → add (add a b) c ≡ add a (add b c)
  pub add_comm : (a b : K) → add a b ≡ add b a
  pub add_zero : (a : K) → add a zero ≡ a
  pub add_self : (a : K) → add a a ≡ zero
  pub mul_assoc : (a b c : K) → mul (mul a b) c ≡ mul a (mul b c)
  pub mul_comm : (a b : K) → mul a b ≡ mul b a
  pub mul_one : (a : K) → mul a one ≡ a
  pub distrib : (a b c : K) → mul a (add b c) ≡ add (mul a b) (mul a c)
  pub one_not_zero : ¬ (one ≡ zero)
  pub inverse : (a : K) → ¬ (a ≡ zero) → mul a (inv a) ≡ one
  pub same : (a b : K) → Dec (a ≡ b)
