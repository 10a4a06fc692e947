-- A coder that was made has the stages of the plan; a refusal comes where they cannot stand on the carrier.
use Rattle.std.proofs.Common.{◌≡◌, [], ◌∷◌, ap, ◌∙◌}
use Rattle.plan.specs.Coders.{check_meaning, randomiser_meaning, code_meaning, interleaver_meaning, stage_list}
use Rattle.plan.specs.Stacks.{check_part, randomiser_part, code_part}
use Rattle.plan.proofs.Coders.{code_there, coder_made, check_unfit}
use Rattle.limits.proofs.Within.{sound}
use Rattle.plan.proofs.plan.Plan.on.Goals as goal

pub returns-in-Ok-new-2 : goal.returns-in-Ok-new-2
returns-in-Ok-new-2 g c =
    let p = c.args.self.now.numbers in
    let unit = c.args.self.now.unit in
    let coder = c.in-Ok-new-2.coder in
    let low = c.in-Ok.ensures.made in
    let middle = c.in-Ok-new.ensures in
    let whole = c.in-Ok-new-2.ensures in
    let same : coder.carrier.carrier.carrier.carrier ≡ c.args.carrier = cc in
    let a : stage_list check_meaning coder.stage ≡ check_part p = ap (stage_list check_meaning) whole.0 ∙ c.check_byte.ensures in
    let b : stage_list randomiser_meaning coder.carrier.stage ≡ randomiser_part p unit =
    ap (λ m. stage_list randomiser_meaning m.stage) whole.1 ∙ ap (stage_list randomiser_meaning) middle.0 ∙ c.randomiser.ensures in
    let d : code_meaning coder.carrier.carrier.stage ∷ interleaver_meaning coder.carrier.carrier.carrier.stage ∷ [] ≡ code_part p =
    ap (λ l. code_meaning l.stage ∷ interleaver_meaning l.carrier.stage ∷ []) (ap (λ m. m.carrier) whole.1 ∙ middle.1)
    ∙ code_there p c.code.result c.in-Ok.low.stage c.in-Ok.low.carrier.stage low.0 c.code.ensures low.1 low.2 in (
      same,
      coder_made g.C.Carrier.meaning g.C.Carrier.fits g.met.C.Carrier.rule p unit (sound p c.args.self.now.within) coder.stage coder.carrier.stage coder.carrier.carrier.stage
          coder.carrier.carrier.carrier.stage coder.carrier.carrier.carrier.carrier c.args.carrier same a b d (λ P. whole.2 (middle.2 (low.4 P))),
    )

pub returns-in-Err-new-2 : goal.returns-in-Err-new-2
returns-in-Err-new-2 g c =
    let p = c.args.self.now.numbers in
    let unit = c.args.self.now.unit in
    let part = c.in-Ok-new.middle in
    let low = c.in-Ok.ensures.made in
    let middle = c.in-Ok-new.ensures in
    let refused = c.in-Err-new-2.ensures in
    let parts = c.into_parts-low.ensures in
    let same : part.carrier.carrier.carrier ≡ c.args.carrier = cc in
    let b : stage_list randomiser_meaning part.stage ≡ randomiser_part p unit = ap (stage_list randomiser_meaning) middle.0 ∙ c.randomiser.ensures in
    let d : code_meaning part.carrier.stage ∷ interleaver_meaning part.carrier.carrier.stage ∷ [] ≡ code_part p =
    ap (λ l. code_meaning l.stage ∷ interleaver_meaning l.carrier.stage ∷ []) middle.1
    ∙ code_there p c.code.result c.in-Ok.low.stage c.in-Ok.low.carrier.stage low.0 c.code.ensures low.1 low.2 in (
      cc,
      cc,
      check_unfit g.C.Carrier.meaning g.C.Carrier.fits g.met.C.Carrier.rule p unit (sound p c.args.self.now.within) c.check_byte.result part.stage part.carrier.stage
          part.carrier.carrier.stage part.carrier.carrier.carrier c.args.carrier same c.check_byte.ensures b d _ (λ f. f.0.0.0) (λ P. middle.2 (low.4 P)) refused.2,
    )
