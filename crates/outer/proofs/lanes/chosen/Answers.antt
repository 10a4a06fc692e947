-- Lanes are chosen by the test of one bit.
use Rattle.std.proofs.Common.{◌≡◌, ℕ, false, cond, eqb, length, get_or, replicate, ap, ◌∙◌, arith, w8}
use lib.Bits.{bit_and}
use lib.Lanes.{zip2, sel_l}
use lib.ListN.{get_or-replicate}
use Rattle.std.proofs.lemmas.Simd.{tops_compared, length-zip2, get_or-sel_l, get_or-zip2}
use Rattle.outer.proofs.lanes.chosen.Goals as goal

pub returns : goal.returns
returns c l h =
    let row = c.args.row in
    let v = c.args.v in
    let bit = c.args.bit in
    let nought : ℕ = 0 in
    let none = replicate 32 nought in
    let mask = replicate 32 bit in
    let lr = c.fits-row.0 in
    let lv = c.fits-v.0 in
    let bits = zip2 bit_and v mask in
    let tests = zip2 eqb bits none in
    let lb : length bits ≡ 32 = length-zip2 bit_and v mask lv ∙ lv in
    let lt : length tests ≡ 32 = length-zip2 eqb bits none lb ∙ lb in
    let same = tops_compared w8 eqb bits none in
    ap (λ m. get_or (sel_l m none row) l 0) same
    ∙ get_or-sel_l tests none row l 0 (omega arith) h (omega arith)
    ∙ ap (λ x. cond (get_or tests l false) x (get_or row l 0)) (get_or-replicate 32 l nought 0 h)
    ∙ ap (λ t. cond t 0 (get_or row l 0))
    (get_or-zip2 eqb bits none l 0 0 false (omega arith) h
    ∙ ap (eqb (get_or bits l 0)) (get_or-replicate 32 l nought 0 h)
    ∙ ap (λ n. eqb n 0) (get_or-zip2 bit_and v mask l 0 0 0 (omega arith) h ∙ ap (bit_and (get_or v l 0)) (get_or-replicate 32 l bit 0 h)))
