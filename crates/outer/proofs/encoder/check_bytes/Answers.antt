-- One byte more is one step of the division, and the remainder makes a code word.
use Rattle.std.proofs.Common.{◌++◌, get_or, take, sym, ap, ◌∙◌, subst, arith}
use Rattle.std.proofs.lemmas.List.{take_more, take_all}
use Rattle.outer.specs.Words.{CodeWord}
use Rattle.outer.specs.Encoder.{coefficient}
use Rattle.outer.specs.ByteLists.{Bytes}
use Rattle.outer.proofs.Bytewise.{bytes_take}
use Rattle.outer.proofs.Division.{remainder, remainder_none_lane, remainder_more, take-remainder, remainder_code_word}
use Rattle.outer.proofs.encoder.check_bytes.Goals as goal

pub loop-byte-init : goal.loop-byte-init
loop-byte-init c f r n rule hn are l h = remainder_none_lane f r n l

pub loop-byte-preserved : goal.loop-byte-preserved
loop-byte-preserved c f r n rule hn are l h =
    let xs = c.args.bytes.now in
    let i = c.loop-byte.byte-index in
    let small : Bytes xs = λ k. (c.type_inv.bytes k).fits in
    remainder_more f rule r n (take i xs) (bytes_take i xs small) c.loop-byte.checks c.advance-checks.result (get_or xs i 0) (small i) hn c.loop-byte.auto.checks.0
    (c.loop-byte.invariant f r n rule hn are) (c.advance-checks.ensures f (coefficient f r n) rule are) l h
    ∙ ap (λ ys. get_or (remainder f r n ys) l 0) (sym (take_more xs i 0 c.loop-byte-test.true))

pub returns : goal.returns
returns c f r n rule hn are =
    let xs = c.args.bytes.now in
    let s = c.loop-byte.checks in
    let i = c.loop-byte.byte-index in
    let long = c.loop-byte.auto.checks.0 in
    let whole = take_all i xs c.loop-byte-test.false in
    let begins = take-remainder f r n xs s (omega arith) (λ l h. c.loop-byte.invariant f r n rule hn are l (omega arith) ∙ ap (λ ys. get_or (remainder f r n ys) l 0) whole) in
    subst (λ cs. CodeWord f r n (xs ++ cs)) (sym begins) (remainder_code_word f rule r n xs (λ k. (c.type_inv.bytes k).fits))
