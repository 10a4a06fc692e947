-- Both characters of a pair are digits of the text, and make one byte more.
use Rattle.std.proofs.Common.{vec_items, arith, rules}
use Rattle.hex_text.proofs.Saying.{high-at, low-at, pairs_more}
use Rattle.hex_text.proofs.pack.Goals as goal

pub pair-requires-clause-high_is : goal.pair-requires-clause-high_is
pair-requires-clause-high_is c = rw (high-at c.args.text.now c.loop-high.high-index c.as_chunks.ensures.front (omega arith)) (c.requires.all _ (omega arith))

pub pair-requires-clause-low_is : goal.pair-requires-clause-low_is
pair-requires-clause-low_is c = rw (low-at c.args.text.now c.loop-high.high-index c.as_chunks.ensures.front (omega arith)) (c.requires.all _ (omega arith))

pub loop-high-preserved : goal.loop-high-preserved
loop-high-preserved c =
    let text = c.args.text.now in
    let i = c.loop-high.high-index in
    let high = high-at text i c.as_chunks.ensures.front (omega arith) in
    let low = low-at text i c.as_chunks.ensures.front (omega arith) in (
      search rules,
      rw c.in_ok-push.ensures.items (
          pairs_more text (vec_items c.loop-high.bytes) i c.pair.result (omega (arith, c.loop-high.bytes.ok.0, c.loop-high.invariant.0)) c.loop-high.invariant.1 (simp (high, low) at c.pair.ensures)
          ),
    )
