-- The check byte keeps the stage rule.
use Rattle.std.specs.Prelude.{◌≡◌, ℕ, ◌+◌, ◌<◌, ◌≤◌, Bool, true, false, List, [], ◌∷◌, ◌++◌, length, take, ◌==◌, slice_index, slice_index_or, refl}
use Rattle.std.proofs.Common.{ap, ◌∙◌, inl, inr, arith, eq-eqb, length-append}
use Rattle.std.proofs.lemmas.List.{places, get_or_at, get_or-take, take_at, take-take, length-take-le}
use Rattle.stack.specs.Rules.{Decodes, StageRule}
use Rattle.stages.specs.Checking.{checked, checking}
use Rattle.stages.specs.Remainder.{check_byte}
use Rattle.stages.specs.Remainders.{check_byte_small}

-- what `decode` says of the front of a buffer
pub decode_front : (n : ℕ) (y : List ℕ) → (checking n).decode (take (n + 1) y) ≡ checked (slice_index y n == check_byte (take n y)) (take n y)
decode_front n y =
    let e : slice_index_or (take (n + 1) y) n 0 ≡ slice_index_or y n 0 = get_or-take (n + 1) y n 0 (omega arith) in
    let f : take n (take (n + 1) y) ≡ take n y = take-take n (n + 1) y (omega arith) in
    λ i. checked (e i == check_byte (f i)) (f i)

kept : (b : Bool) (n : ℕ) (x : List ℕ) → length x ≡ n → Decodes (checking n) (checked b x)
kept true n x h = record { body = h; count = omega arith }
kept false n x h = inr (inl refl)

pub checking_rule : (n : ℕ) → 1 ≤ n → n < 98304 → StageRule (checking n)
checking_rule n low high = record {
  upper = record { low = low; high = omega arith };
  lower = record { low = omega arith; high = omega arith };
  encode_length = λ x h. simp length-append (omega arith);
  encode_bytes = λ x h b k. grind (arith, places, b k, check_byte_small x);
  decodes = λ y h. kept (slice_index y n == check_byte (take n y)) n (take n y) (length-take-le n y (omega arith));
  returns = λ x h b.
      let front : take n (x ++ check_byte x ∷ []) ≡ x = take_at x (check_byte x ∷ []) n h in
      let last : slice_index_or (x ++ check_byte x ∷ []) n 0 ≡ check_byte x = get_or_at x (check_byte x) [] 0 n h in
      (λ i. checked (last i == check_byte (front i)) (front i)) ∙ ap (λ t. checked t x) (eq-eqb (check_byte x) (check_byte x) refl);
}
