-- The stage that appends a fixed byte keeps the stage rule.
use Rattle.std.specs.Prelude.{◌≡◌, ℕ, ◌+◌, ◌<◌, ◌≤◌, Bool, true, false, cond, List, [], ◌∷◌, length, take, Ok, Err, ◌==◌, slice_index, slice_index_or}
use Rattle.std.proofs.Common.{inr, arith, length-append}
use Rattle.std.proofs.lemmas.List.{places, get_or_at, get_or-take, take_at, take-take, length-take-le}
use Rattle.stack.specs.declared.fault.Fault.TheVariants.{Other}
use Rattle.stack.specs.Rules.{Decodes, StageRule}
use Rattle.samples.specs.Marked.{marking}

-- what `decode` says of the front of a buffer
pub decode_front : (n : ℕ) (y : List ℕ) → (marking n).decode (take (n + 1) y) ≡ cond (slice_index y n == 165) (Ok (record { body = take n y; count = 0 })) (Err (Other 0 0))
decode_front n y =
    let e : slice_index_or (take (n + 1) y) n 0 ≡ slice_index_or y n 0 = get_or-take (n + 1) y n 0 (omega arith) in
    let f : take n (take (n + 1) y) ≡ take n y = take-take n (n + 1) y (omega arith) in
    λ i. cond (e i == 165) (Ok (record { body = f i; count = 0 })) (Err (Other 0 0))

kept : (b : Bool) (n : ℕ) (x : List ℕ) → length x ≡ n → Decodes (marking n) (cond b (Ok (record { body = x; count = 0 })) (Err (Other 0 0)))
kept true n x h = record { body = h; count = omega arith }
kept false n x h = inr (inr (omega arith))

pub marking_rule : (n : ℕ) → 1 ≤ n → n < 98304 → StageRule (marking n)
marking_rule n low high = record {
  upper = record { low = low; high = omega arith };
  lower = record { low = omega arith; high = omega arith };
  encode_length = λ x h. simp length-append (omega arith);
  encode_bytes = λ x h b k. grind (arith, places, b k);
  decodes = λ y h. kept (slice_index y n == 165) n (take n y) (length-take-le n y (omega arith));
  returns = λ x h b. λ i. cond ((get_or_at x 165 [] 0 n h i) == 165) (Ok (record { body = take_at x (165 ∷ []) n h i; count = 0 })) (Err (Other 0 0));
}
