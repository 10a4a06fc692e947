-- `inverse` takes the exponent from 255; the inverse of 0 is 0.
use Rattle.std.proofs.Common.{sym, ap, ◌∙◌, arith}
use Rattle.galois.specs.Polynomials.{field_1}
use Rattle.galois.specs.Raising.{power_inverse}
use Rattle.galois.specs.Rules.{rule_1}
use Rattle.galois.proofs.field1.Field1Field.inverse.Goals as goal

pub returns-then-a-eq0 : goal.returns-then-a-eq0
returns-then-a-eq0 c = sym (ap field_1.inv c.if-a-eq0.true ∙ rule_1.inv_zero)

pub returns : goal.returns
returns c = c.power.ensures ∙ power_inverse field_1 rule_1 c.logarithm.result c.args.a (omega arith) (omega arith) c.if-a-eq0.false c.logarithm.ensures.value
