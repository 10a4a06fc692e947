-- The first of two is the lesser where it is not more than the second.
use Rattle.std.proofs.Common.{◌≡◌, ℕ, ◌%◌, ◌^◌, ◌<◌, Bool, true, false, cond, not, ltb, leb, length, get_or, sym, refl, ap, ◌∙◌, subst, arith, w16}
use lib.Lanes.{zip2, sel_l, mask_l}
use Rattle.std.proofs.lemmas.Simd.{tops_compared, mask_l-mod, mask_l-lt, bit_mask_l, length-zip2, length-sel_l, get_or-sel_l, get_or-zip2}
use Rattle.std.proofs.lemmas.Bool.Decides.{nat_tests}
use Rattle.convolution.specs.Code.{bit}
use Rattle.convolution.specs.Trellis.{bit_of}
use Rattle.convolution.proofs.lanes.choose.Goals as goal

le_not_lt : (a b : ℕ) → leb a b ≡ not (ltb b a)
le_not_lt a b = grind (arith, nat_tests)

other_way : {X : Type 0} (t : Bool) (x y : X) → cond (not t) x y ≡ cond t y x
other_way true x y = refl
other_way false x y = refl

pub returns : goal.returns
returns c =
    let a = c.args.a in
    let b = c.args.b in
    let ms = zip2 leb a b in
    let la = c.fits-a.0 in
    let lb = c.fits-b.0 in
    let lm : length ms ≡ 32 = length-zip2 leb a b (la ∙ sym lb) ∙ la in
    let same = tops_compared w16 leb a b in
    let mask = ap (λ v. mask_l v % 2 ^ 64) same ∙ mask_l-mod ms 64 (omega arith) in
    let lane = λ (s : ℕ) (h : s < 32). get_or-zip2 leb a b s 0 0 false (omega arith) (omega arith) ∙ le_not_lt (get_or a s 0) (get_or b s 0) in
    record {
      long = ap (λ v. length (sel_l v a b)) same ∙ length-sel_l ms a b (lm ∙ sym la) (lm ∙ sym lb) ∙ lm;
      least = λ s h.
          ap (λ v. get_or (sel_l v a b) s 0) same ∙ get_or-sel_l ms a b s 0 (omega arith) (omega arith) (omega arith)
          ∙ ap (λ t. cond t (get_or a s 0) (get_or b s 0)) (lane s h) ∙ other_way (ltb (get_or b s 0) (get_or a s 0)) (get_or a s 0) (get_or b s 0);
      kept = λ s h. ap (λ d. bit_of d s) mask ∙ bit_mask_l ms s ∙ ap bit (lane s h);
      below = rw mask (subst (λ n. mask_l ms < 2 ^ n) lm (mask_l-lt ms));
    }
