-- The block interleaver keeps the stage rule.
use Rattle.std.specs.Prelude.{ℕ, ◌+◌, ◌*◌, ◌<◌, ◌≤◌, Ok, slice_index, refl}
use Rattle.std.proofs.Common.{sym, ap, ◌∙◌, subst, mul_comm, arith}
use Rattle.std.proofs.Math.Nat.{one-le-mul}
use Rattle.permutation.specs.Arrange.{arranged}
use Rattle.permutation.specs.Transposed.{transposition}
use Rattle.permutation.proofs.Permuting.{length-arranged, length-restored, restored-arranged, arranged_below}
use Rattle.permutation.proofs.Picking.{get_d_picked}
use Rattle.permutation.proofs.Rows.{element_below}
use Rattle.permutation.specs.Turning.{transposition_rearranges, turned-at}
use Rattle.stack.specs.Rules.{StageRule}
use Rattle.stages.specs.Interleaving.{interleaving, ByteMoves}

pub interleaving_rule : (words n : ℕ) → 1 ≤ words → 1 ≤ n → words * n ≤ 98304 → StageRule (interleaving words n)
interleaving_rule words n tall wide small =
    let a = transposition words n in
    let law = transposition_rearranges words n tall wide in
    record {
      upper = record { low = one-le-mul tall wide; high = small };
      lower = record { low = one-le-mul tall wide; high = small };
      encode_length = λ x h. length-arranged a law x h;
      encode_bytes = λ x h b. arranged_below a law x 256 h b;
      decodes = λ y h. record { body = length-restored a law y h; count = omega arith };
      returns = λ x h b. ap (λ y. Ok (record { body = y; count = 0 })) (restored-arranged a law x h);
    }

pub byte_moves : (words n : ℕ) → ByteMoves words n
unfolding arranged
byte_moves words n x w c many below within =
    let a = transposition words n in
    let law = transposition_rearranges words n (omega arith) (omega arith) in
    let here : c * words + w < words * n = subst (λ m. c * words + w < m) (mul_comm n words) (element_below (transposition n words) refl within below) in
    get_d_picked a.source (words * n) x (λ j h. subst (λ m. a.source j < m) (sym many) (law.source_below j h)) (c * words + w) 0 here ∙ ap (λ i. slice_index x i) (turned-at n words c w below)
