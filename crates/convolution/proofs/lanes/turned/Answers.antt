-- No lane is more than the total.
use Rattle.std.proofs.Common.{ℕ, ◌-◌, ◌≤◌, get_or, replicate, ap, ◌∙◌, arith}
use lib.ListN.{length-replicate, get_or-replicate}
use Rattle.std.proofs.lemmas.Simd.{Each2-of, Each1-replicate, Each1-from_get_or, get_or-zip2}
use Rattle.convolution.proofs.lanes.turned.Goals as goal

pub overflow_sub-result : goal.overflow_sub-result
overflow_sub-result c =
    let k = c.args.total in
    let P : ℕ → Type 0 = λ x. k ≤ x in
    let Q : ℕ → Type 0 = λ x. x ≤ k in
    let R : ℕ → ℕ → Type 0 = λ x y. y ≤ x in
    Each2-of P Q R (λ x y p q. omega arith) (replicate 32 k) c.args.c (Each1-replicate P 32 k (omega arith)) (Each1-from_get_or Q c.args.c 0 (λ i h. c.requires i (omega (arith, c.fits-c.0))))

pub returns : goal.returns
returns c s h =
    let k = c.args.total in
    let lk = length-replicate 32 k in
    get_or-zip2 (λ x y. x - y) (replicate 32 k) c.args.c s 0 0 0 (omega arith) (omega (arith, c.fits-c.0)) ∙ ap (λ x. x - get_or c.args.c s 0) (get_or-replicate 32 s k 0 h)
