-- One place more stands behind the others, and zeros behind it.
use Rattle.std.proofs.Common.{◌≡◌, ◌+◌, ◌-◌, replicate, drop, sym, ap, ◌∙◌, arith, length-set}
use Rattle.std.proofs.lemmas.List.{drop-set-lt, drop-drop, drop-replicate}
use Rattle.outer.proofs.error_places.Places.push.Goals as goal

pub invariant_of-self : goal.invariant_of-self
invariant_of-self c =
    let at = c.self.inside.at in
    let n = c.self.inside.count in
    let less : 16 - n - 1 ≡ 16 - (n + 1) = omega arith in
    record {
      long = length-set at n c.args.place ∙ c.self.invariant.long;
      few = omega (arith, c.if-self-lt16.true);
      rest = drop-set-lt (n + 1) at n c.args.place (omega arith) ∙ sym (drop-drop 1 n at) ∙ ap (drop 1) c.self.invariant.rest ∙ drop-replicate 1 (16 - n) 0 ∙ ap (λ k. replicate k 0) less;
    }
