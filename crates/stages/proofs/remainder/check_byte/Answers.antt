-- `check_byte` leaves the remainder: one byte more is one entry of the table.
use Rattle.std.proofs.Common.{◌≡◌, sym, refl, ap, ◌∙◌, subst, arith}
use Rattle.std.proofs.lemmas.List.{take_all}
use Rattle.stages.specs.Remainder.{check_byte, Divides, divided, reduced}
use Rattle.stages.specs.Remainders.{shifted, check_byte_none, check_byte_more, check_byte_divides, check_byte_only}
use Rattle.stages.proofs.remainder.check_byte.Goals as goal

pub loop-b-init : goal.loop-b-init
loop-b-init c = check_byte_none

pub loop-b-preserved : goal.loop-b-preserved
unfolding shifted divided reduced
loop-b-preserved c = check_byte_more c.args.body.now _ c.loop-b.b-index c.loop-b.r c.loop-b-test.true (omega arith) refl c.loop-b.invariant

pub returns : goal.returns
returns c =
    let body = c.args.body.now in
    let is : c.loop-b.r ≡ check_byte body = c.loop-b.invariant ∙ ap check_byte (take_all c.loop-b.b-index body (omega arith)) in
    record {
      value = is;
      divides = subst (Divides body) (sym is) (check_byte_divides body);
      only = λ k h d. check_byte_only body k h d ∙ sym is;
    }
