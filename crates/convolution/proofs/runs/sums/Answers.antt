use Rattle.std.proofs.Common.{◌≡◌, ℕ, ◌+◌, ◌/◌, ◌^◌, sym, ◌∙◌, subst, arith}
use lib.Bits.{and_mask}
use Rattle.convolution.proofs.Parity.{Summed, summed_set, summed_clear, summed_all}
use Rattle.convolution.proofs.runs.sums.Goals as goal
use Rattle.convolution.proofs.runs.sums.Goals.{then-generator-j-eq1, else-generator-j-eq1}

pub loop-j-preserved : goal.loop-j-preserved
loop-j-preserved c =
    let digit = and_mask (c.args.generator / 2 ^ c.loop-j.j) 1 in
    let P : ℕ → Type 0 = λ s. Summed s c.args.bits c.args.generator (c.loop-j.j + 1) in
    elim c.if-generator-j-eq1.branch [
      | then-generator-j-eq1 w ↦ subst P (sym w.sum-is) (summed_set c.loop-j.sum c.args.bits c.args.generator c.loop-j.j (sym digit ∙ w.if-generator-j-eq1.true) c.loop-j.invariant)
      | else-generator-j-eq1 w ↦ subst P (sym w.sum-is) (summed_clear c.loop-j.sum c.args.bits c.args.generator c.loop-j.j (omega (arith, digit, w.if-generator-j-eq1.false)) c.loop-j.invariant)
    ]

pub returns : goal.returns
returns c =
    let end : c.loop-j.j ≡ 7 = omega arith in
    summed_all c.loop-j.sum c.args.bits c.args.generator c.requires (subst (Summed c.loop-j.sum c.args.bits c.args.generator) end c.loop-j.invariant)
