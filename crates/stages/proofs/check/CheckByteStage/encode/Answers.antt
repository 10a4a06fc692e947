use Rattle.std.proofs.Common.{◌≡◌, [], ◌∷◌, ◌++◌, length, take, set, ap, ◌∙◌, arith}
use native.Mathlib.Nat.{sub-zero}
use Rattle.std.proofs.lemmas.List.{length-take-le}
use Rattle.stack.specs.Buffers.{padded}
use Rattle.stack.specs.Bodies.{cleared, set-padded}
use Rattle.stages.specs.Remainder.{check_byte}
use Rattle.stages.proofs.check.CheckByteStage.encode.Goals as goal

pub returns : goal.returns
returns c =
    let n = c.args.self.now.length in
    let x = take n c.args.from.now in
    let is : c.check_byte.result ≡ check_byte x = simp sub-zero at c.check_byte.ensures.value in
    record {
      from = cleared _ _ c.clear.ensures;
      to = ap (λ l. set l n c.check_byte.result) (simp sub-zero at c.load.ensures)
          ∙ set-padded n (length c.args.to.now) c.check_byte.result x (length-take-le n c.args.from.now (omega (arith, c.requires))) (omega (arith, c.requires))
          ∙ ap (λ b. padded (length c.args.to.now) (x ++ b ∷ [])) is;
    }
