-- `raise` squares the factor and halves the number of factors left.
use Rattle.std.proofs.Common.{◌≡◌, ◌/◌, ◌<◌, ap, ◌∙◌, arith}
use Rattle.galois.specs.Bytes.{raised}
use Rattle.galois.specs.Polynomials.{product_of, field_2}
use Rattle.galois.specs.Raising.{raised_none, raised_odd, raised_even, raised_all}
use Rattle.galois.specs.Rules.{rule_2}
use Rattle.galois.proofs.field2.raise.Goals as goal
use Rattle.galois.proofs.field2.raise.Goals.{then-left-eq1, else-left-eq1}

pub loop-left-init : goal.loop-left-init
loop-left-init c = (omega arith, omega arith, raised_none field_2 rule_2 c.args.a c.args.n (omega arith))

pub loop-left-preserved : goal.loop-left-preserved
loop-left-preserved c =
    let mul = product_of 8 0x87 in
    let r = c.loop-left.result in
    let x = c.loop-left.x in
    let n = c.loop-left.left in
    let inv = c.loop-left.invariant in
    let small : c.if-left-eq1.result < 256
    = elim c.if-left-eq1.branch [ then-left-eq1 w ↦ omega (arith, w.result-is, w.product-result.type_inv) | else-left-eq1 w ↦ omega (arith, w.result-is, inv.0) ] in
    let kept : mul c.if-left-eq1.result (raised mul (mul x x) (n / 2)) ≡ raised mul c.args.a c.args.n
    = elim c.if-left-eq1.branch [
      | then-left-eq1 w ↦ ap (λ u. mul u (raised mul (mul x x) (n / 2))) (w.result-is ∙ w.product-result.ensures) ∙ raised_odd field_2 rule_2 r x n inv.0 inv.1 w.if-left-eq1.true ∙ inv.2
      | else-left-eq1 w ↦ ap (λ u. mul u (raised mul (mul x x) (n / 2))) w.result-is ∙ raised_even field_2 rule_2 r x n inv.1 w.if-left-eq1.false ∙ inv.2
    ] in
    (small, c.product-x.type_inv, ap (λ u. mul c.if-left-eq1.result (raised mul u (n / 2))) c.product-x.ensures ∙ kept)

pub returns : goal.returns
returns c = raised_all field_2 rule_2 c.loop-left.result c.loop-left.x c.loop-left.left c.loop-left.invariant.0 (omega arith) ∙ c.loop-left.invariant.2
