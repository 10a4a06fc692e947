-- `mul` adds the exponents; a product by 0 is 0.
use Rattle.std.proofs.Common.{◌∙◌, ap₂, inl, inr, ⊎_elim, arith}
use Rattle.galois.specs.Polynomials.{product_of, field_1}
use Rattle.galois.specs.Raising.{power_add, mul_zero}
use Rattle.galois.specs.Rules.{rule_1}
use Rattle.galois.proofs.field1.Field1Field.mul.Goals as goal

pub returns-then-a-eq0 : goal.returns-then-a-eq0
returns-then-a-eq0 c = mul_zero field_1 rule_1 c.args.a c.args.b (omega arith) (omega arith) (⊎_elim inl (λ h. inr h.1) c.then-a-eq0.either)

pub returns : goal.returns
returns c =
    c.power.ensures ∙ power_add field_1 rule_1 c.logarithm.result c.logarithm-2.result
    ∙ ap₂ (product_of 8 0x1D) c.logarithm.ensures.value c.logarithm-2.ensures.value
