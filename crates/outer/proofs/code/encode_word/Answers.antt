-- The check bytes behind the data.
use Rattle.std.proofs.Common.{◌≡◌, ◌-◌, ◌++◌, length, take, sym, ◌∙◌, subst, arith, length-drop}
use Rattle.std.proofs.lemmas.List.{length-take-le}
use Rattle.outer.specs.Words.{CodeWord}
use Rattle.outer.proofs.Repairs.{filled_is}
use Rattle.outer.proofs.code.encode_word.Goals as goal

pub returns : goal.returns
returns c f r rule are =
    let w = c.args.word.now in
    let k = c.args.k in
    let cs = c.copy_from_slice.new.self in
    let size = length-drop k w in
    let long : length cs ≡ length w - k = c.copy_from_slice.ensures.len ∙ length-take-le (length w - k) _ (omega (arith, size)) in
    filled_is f rule r k w cs c.requires.0 c.requires.1.1 long (λ i. (c.type_inv.word i).fits)
    (subst (λ l. CodeWord f r (length w - k) (take k w ++ l)) (sym c.copy_from_slice.ensures.after) (c.check_bytes-checks.ensures f r (length w - k) rule c.requires.1.0 are))
