-- `logarithm` reads the table of exponents, which is computed once more to compare.
use Rattle.std.proofs.Common.{get_or, sym, ap, ◌∙◌, subst, arith}
use Rattle.galois.specs.Bytes.{Exponent}
use Rattle.galois.specs.Polynomials.{times_z, field_1}
use Rattle.galois.proofs.Tables.{exponents, digits, logarithms, logarithms-at}
use Rattle.galois.proofs.field1.logarithm.Goals as goal

pub returns : goal.returns
unfolding exponents digits logarithms times_z
returns c =
    subst (λ e. Exponent field_1 c.args.a e) (sym (c.from-2.ensures ∙ ap (λ k. get_or logarithms k 0) c.from.ensures)) (logarithms-at c.args.a (omega arith) c.requires)
