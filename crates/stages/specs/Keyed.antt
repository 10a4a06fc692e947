-- The randomiser keeps the stage rule.
use Rattle.std.specs.Prelude.{ℕ, ◌≤◌, Ok}
use Rattle.std.proofs.Common.{ap, ◌∙◌, arith}
use Rattle.stack.specs.Rules.{StageRule}
use Rattle.stages.specs.Randomising.{randomising}
use Rattle.stages.specs.Sequences.{length_randomised, randomised_lt, randomised_twice}

pub randomising_rule : (seed unit n : ℕ) → 1 ≤ n → n ≤ 98304 → StageRule (randomising seed unit n)
randomising_rule seed unit n low high = record {
  upper = record { low = low; high = high };
  lower = record { low = low; high = high };
  encode_length = λ x h. length_randomised seed unit x ∙ h;
  encode_bytes = λ x h b. randomised_lt seed unit x b;
  decodes = λ y h. record { body = length_randomised seed unit y ∙ h; count = omega arith };
  returns = λ x h b. ap (λ y. Ok (record { body = y; count = 0 })) (randomised_twice seed unit x);
}
