-- Nothing is taken from a lane that it does not have.
use Rattle.std.proofs.Common.{◌+◌, ◌-◌, ◌≤◌, get_or, replicate, sym, ap, ◌∙◌, arith}
use lib.ListN.{length-replicate, get_or-replicate}
use Rattle.std.proofs.lemmas.Simd.{Each2-splat, Each1-from_get_or, get_or-zip2, length-zip2}
use Rattle.convolution.proofs.lanes.lower.Goals as goal

pub overflow_sub-result : goal.overflow_sub-result
overflow_sub-result c =
    let k = c.args.k in
    Each2-splat _ c.args.a 32 k (Each1-from_get_or (λ x. k ≤ x) c.args.a 0 (λ i h. c.requires i (omega (arith, c.fits-a.0))))

pub returns : goal.returns
returns c =
    let a = c.args.a in
    let k = c.args.k in
    let la = c.fits-a.0 in
    let lk = length-replicate 32 k in
    record {
      long = length-zip2 (λ x y. x - y) a (replicate 32 k) (la ∙ sym lk) ∙ la;
      each = λ s h.
          let e = get_or-zip2 (λ x y. x - y) a (replicate 32 k) s 0 0 0 (omega arith) (omega arith) ∙ ap (λ y. get_or a s 0 - y) (get_or-replicate 32 s k 0 h) in
          ap (λ v. v + k) e ∙ omega (arith, c.requires s h);
    }
