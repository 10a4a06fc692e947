-- The costs are near enough to the first that all of them can be lowered.
use Rattle.std.proofs.Common.{◌+◌, ◌++◌, arith}
use Rattle.std.proofs.lemmas.List.{get_or_append_left}
use Rattle.convolution.proofs.Spread.{near_all}
use Rattle.convolution.proofs.Halves.{both_lower, high_at}
use Rattle.convolution.proofs.lanes.rebase.Goals as goal

pub lower-requires : goal.lower-requires
lower-requires c s h =
    let l = c.args.low in
    let r = c.args.high in
    omega (arith, near_all (l ++ r) c.requires.0 0 s (omega arith) (omega arith), get_or_append_left l r 0 0 (omega arith), get_or_append_left l r 0 s (omega arith))

pub lower-requires-else-low-lt16384 : goal.lower-requires-else-low-lt16384
lower-requires-else-low-lt16384 c s h =
    let l = c.args.low in
    let r = c.args.high in
    omega (arith, near_all (l ++ r) c.requires.0 0 (s + 32) (omega arith) (omega arith), get_or_append_left l r 0 0 (omega arith), high_at l r s c.fits-low.0)

pub returns-else-low-lt16384 : goal.returns-else-low-lt16384
returns-else-low-lt16384 c =
    let same = both_lower c.lower.result c.lower-else-low-lt16384.result c.args.low c.args.high 8192 c.lower.ensures.long c.fits-low.0 c.lower.ensures.each c.lower-else-low-lt16384.ensures.each in
    record { long = c.lower.ensures.long; lower = ((8192, same), omega (arith, same 0 (omega arith))) }
