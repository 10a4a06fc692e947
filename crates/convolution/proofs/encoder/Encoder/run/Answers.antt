use Rattle.std.proofs.Common.{◌≡◌, length, map, take, refl, ap, ◌∙◌, arith}
use Rattle.std.proofs.lemmas.List.{length-take}
use Rattle.convolution.proofs.Sending.{rows, rows_more, next_rows, next_held, next_turned}
use Rattle.convolution.proofs.encoder.Encoder.run.Goals as goal

pub loop-i-init : goal.loop-i-init
unfolding rows
loop-i-init c = (omega arith, refl)

pub loop-i-preserved : goal.loop-i-preserved
loop-i-preserved c = (
  omega (arith, c.put_step-count.ensures.count, c.loop-i.invariant.0),
  rows_more (map (λ r. r.marks) c.rows-rows.result) (map (λ r. r.kept) c.rows-rows.result) c.loop-i.i (take c.loop-i.count c.loop-i.marks) c.loop-i.invariant.1 c.put_step-count.ensures.written,
)

pub returns : goal.returns
returns c =
    let end : c.loop-i.i ≡ c.args.steps = omega arith in
    let marks = map (λ r. r.marks) c.rows-rows.result in
    let kept = map (λ r. r.kept) c.rows-rows.result in
    record {
      count = omega (arith, ap length c.of.ensures, length-take c.loop-i.count c.loop-i.marks, c.loop-i.invariant.0);
      ran = λ rate w m a v l. record {
        after = record { same = a.same; held = next_held a m c.args.bits c.args.steps v l; turned = next_turned a m c.args.bits c.args.steps v l };
        written =
            next_rows a m c.args.bits c.args.steps v l marks kept c.of.result
            c.requires c.rows-rows.ensures.marks c.rows-rows.ensures.kept (c.of.ensures ∙ c.loop-i.invariant.1 ∙ ap (rows marks kept) end);
      };
    }
