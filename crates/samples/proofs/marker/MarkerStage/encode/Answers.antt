use Rattle.std.proofs.Common.{length, take, set, ap, ◌∙◌, arith}
use native.Mathlib.Nat.{sub-zero}
use Rattle.std.proofs.lemmas.List.{length-take-le}
use Rattle.stack.specs.Bodies.{cleared, set-padded}
use Rattle.samples.proofs.marker.MarkerStage.encode.Goals as goal

pub returns : goal.returns
returns c = record {
  from = cleared _ _ c.clear.ensures;
  to = ap (λ l. set l c.args.self.now.length 165) (simp sub-zero at c.load.ensures)
      ∙ set-padded c.args.self.now.length (length c.args.to.now) 165 (take c.args.self.now.length c.args.from.now) (length-take-le c.args.self.now.length c.args.from.now (omega (arith, c.requires))) (omega (arith, c.requires));
}
