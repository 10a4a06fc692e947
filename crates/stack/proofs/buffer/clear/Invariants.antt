use Rattle.std.proofs.Common.{◌≡◌, take, replicate}
use Rattle.stack.proofs.buffer.clear.Given as goal

abbrev pub invariant-loop-element : goal.invariant-loop-element
invariant-loop-element g l = take l.element-index l.buffer ≡ replicate l.element-index l.blank
