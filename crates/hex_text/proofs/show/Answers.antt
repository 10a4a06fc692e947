-- One byte more, and at the end all of them, which the text then says.
use Rattle.std.proofs.Common.{◌≡◌, string_bytes, ap, ◌∙◌}
use Rattle.std.proofs.lemmas.List.{take_all}
use Rattle.hex_text.specs.Digits.{written}
use Rattle.hex_text.proofs.Saying.{written_more, written_says}
use Rattle.hex_text.proofs.show.Goals as goal

pub loop-b-init : goal.loop-b-init
unfolding written
loop-b-init c = c.new-text.ensures.bytes

pub loop-b-preserved : goal.loop-b-preserved
loop-b-preserved c =
    written_more c.args.bytes.now _ _ _ c.loop-b.b-index _ _ c.loop-b-test.true (c.type_inv.bytes c.loop-b.b-index).fits c.loop-b.invariant c.letter_of.ensures c.letter_of-in-loop-b.ensures
    c.in_ok-push.ensures.bytes c.in_ok-push-2.ensures.bytes

all : (c : goal.After-loop-b) → string_bytes c.loop-b.text ≡ written c.args.bytes.now
all c = c.loop-b.invariant ∙ ap written (take_all c.loop-b.b-index c.args.bytes.now c.loop-b-test.false)

pub returns : goal.returns
returns c = record {
  lower = all c;
  says = rw (all c) (written_says c.args.bytes.now (λ i. (c.type_inv.bytes i).fits));
}
