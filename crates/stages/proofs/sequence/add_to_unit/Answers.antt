-- Each turn adds one key byte, and the register goes on.
use Rattle.std.proofs.Common.{sym, refl, ap, ◌∙◌, arith}
use Rattle.stages.specs.Sequence.{after, byte_of, key_from, sums}
use Rattle.stages.specs.Sequences.{after_more, keyed_all, keyed_more}
use Rattle.stages.proofs.sequence.add_to_unit.Goals as goal

pub loop-byte-init : goal.loop-byte-init
unfolding after
loop-byte-init c = (refl, refl)

pub loop-byte-preserved : goal.loop-byte-preserved
unfolding key_from
loop-byte-preserved c =
    let i = c.loop-byte.byte-index in (
      c.next_key.ensures.register ∙ ap (after 8) c.loop-byte.invariant.0 ∙ after_more i c.args.register,
      keyed_more (key_from c.args.register) c.loop-byte.part i _ (omega arith) (c.next_key.ensures.key ∙ ap (λ r. byte_of (sums 8 r)) c.loop-byte.invariant.0) ∙ c.loop-byte.invariant.1,
    )

pub returns : goal.returns
returns c = sym (keyed_all (key_from c.args.register) c.loop-byte.part c.loop-byte.byte-index (omega arith)) ∙ c.loop-byte.invariant.1
