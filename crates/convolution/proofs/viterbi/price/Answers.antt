-- The swings of the three slots on top of the costs for mark 0.
use Rattle.std.proofs.Common.{◌≡◌, ℕ, ◌+◌, ◌*◌, ◌%◌, length, get_or, replicate, sym, ap, ◌∙◌, arith}
use lib.Lanes.{zip2}
use lib.ListN.{length-replicate, get_or-replicate}
use Rattle.std.proofs.lemmas.Simd.{get_or-zip2, length-zip2}
use Rattle.convolution.specs.Code.{mark}
use Rattle.convolution.specs.Slots.{generator_at, costs_of, window_cost}
use Rattle.convolution.proofs.Pricing.{slot_le, swings_sum}
use Rattle.convolution.proofs.viterbi.price.Goals as goal

pub returns : goal.returns
unfolding window_cost
returns c s h =
    let costs = c.args.c in
    let z = λ (i : ℕ). (costs_of costs i).zero in
    let g = c.args.generators.now in
    let add : ℕ → ℕ → ℕ = λ x y. (x + y) % 65536 in
    let k : ℕ = z 0 + z 1 + z 2 in
    let n = replicate 32 k in
    let ln = length-replicate 32 k in
    let x = c.swing.result in
    let y = c.swing-2.result in
    let v = c.swing-3.result in
    let lx = c.swing.ensures.long in
    let ly = c.swing-2.ensures.long in
    let lv = c.swing-3.ensures.long in
    let l1 : length (zip2 add n x) ≡ 32 = length-zip2 add n x (ln ∙ sym lx) ∙ ln in
    let l2 : length (zip2 add (zip2 add n x) y) ≡ 32 = length-zip2 add (zip2 add n x) y (l1 ∙ sym ly) ∙ l1 in
    let at = λ (i : ℕ). mark (generator_at g.rate i) (2 * s) in
    get_or-zip2 add (zip2 add (zip2 add n x) y) v s 0 0 0 (omega arith) (omega arith)
    ∙ ap (λ a. add a (get_or v s 0))
    (get_or-zip2 add (zip2 add n x) y s 0 0 0 (omega arith) (omega arith)
    ∙ ap (λ a. add a (get_or y s 0))
    (get_or-zip2 add n x s 0 0 0 (omega arith) (omega arith) ∙ ap (λ a. add a (get_or x s 0)) (get_or-replicate 32 s k 0 h)))
    ∙ swings_sum (z 0) (z 1) (z 2) (get_or x s 0) (get_or y s 0) (get_or v s 0) _ _ _
    (c.swing.ensures.each (generator_at g.rate 0) s h g.one) (c.swing-2.ensures.each (generator_at g.rate 1) s h g.two) (c.swing-3.ensures.each (generator_at g.rate 2) s h g.three)
    (slot_le costs 0 (at 0) 255 (omega arith) (omega arith)) (slot_le costs 1 (at 1) 255 (omega arith) (omega arith)) (slot_le costs 2 (at 2) 255 (omega arith) (omega arith))
