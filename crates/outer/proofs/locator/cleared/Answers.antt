-- The multiple of the pivot is added lane by lane.
use Rattle.std.proofs.Common.{◌≡◌, ℕ, ◌<◌, sym, ap, ◌∙◌, subst, ap₂, arith}
use Rattle.std.proofs.lemmas.Nat.{xor_of_8}
use lib.Bits.{bit_xor}
use lib.Lanes.{zip2}
use lib.ListN.{get_or-replicate}
use Rattle.std.proofs.lemmas.Simd.{get_or-zip2, length-zip2}
use Rattle.outer.specs.Lanes.{lane}
use Rattle.outer.proofs.Cuts.{vector_fits, vector_lanes}
use Rattle.outer.proofs.locator.cleared.Goals as goal

pub returns : goal.returns
returns g c s j p are pivot e =
    let field = c.args.field.now in
    let f = g.F.Field.meaning field in
    let rule = g.met.F.Field.rule field in
    let v = c.args.v in
    let k = c.mul-factor.result in
    let r = zip2 bit_xor v c.times.result in
    let plain : (l : ℕ) → l < 32 → lane r l ≡ bit_xor (lane v l) (f.mul k (lane p l))
    = λ l h.
    get_or-zip2 bit_xor v c.times.result l 0 0 0 (omega arith) (omega arith)
    ∙ ap (bit_xor (lane v l))
    (c.times.ensures f (lane p) rule pivot l h ∙ ap (f.mul (lane p l)) (get_or-replicate 32 l k 0 h) ∙ rule.mul_comm (lane p l) k (pivot.bytes l h) c.mul-factor.type_inv) in
    record {
      vector = vector_lanes r (length-zip2 bit_xor v c.times.result (omega arith) ∙ c.fits-v.0)
          (λ l h. subst (λ u. u < 256) (sym (plain l h)) (xor_of_8 _ _ ((vector_fits v c.fits-v).small l) (rule.mul_small k (lane p l) c.mul-factor.type_inv (pivot.bytes l h))));
      each = λ l h. plain l h ∙ ap (λ u. bit_xor (lane v l) (f.mul u (lane p l))) (c.mul-factor.ensures ∙ ap₂ f.mul (c.applied_to.ensures f s j rule are) e);
    }
