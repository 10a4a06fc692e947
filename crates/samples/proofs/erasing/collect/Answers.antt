use Rattle.std.proofs.Common.{◌≡◌, ℕ, ◌-◌, ◌≤◌, length, replicate, sym, refl, ap, ◌∙◌, arith}
use Rattle.std.specs.Prelude.{Ok, Err}
use Rattle.stack.specs.declared.fault.Fault.TheVariants.{Other}
use Rattle.std.proofs.lemmas.List.{drop_all, take_all}
use Rattle.stack.specs.Buffers.{padded}
use Rattle.stack.specs.Bodies.{cleared}
use Rattle.samples.specs.Erased.{present, values}
use Rattle.samples.specs.Absence.{at_none, at_some, put_some, chosen}
use Rattle.samples.proofs.erasing.collect.Goals as goal

pub loop-i-init : goal.loop-i-init
unfolding values
loop-i-init c =
    let e : length c.args.to.now ≡ length c.clear.new.buffer - 0 = omega arith in
    (refl, cleared _ _ c.clear.ensures ∙ ap (λ n. replicate n 0) e)

pub returns-in-None : goal.returns-in-None
returns-in-None c =
    let none = at_none c.args.readings.now c.loop-i.i _ c.loop-i-test.true c.in-None.is c.loop-i.invariant.0 in
    record {
      all = chosen _ _ (Ok tt) (Err (Other 1 0)) none;
      filled = λ e. let z : ◌≡◌ {A = ℕ} 0 1 = cc (none, e) in let no : ⊥ = omega arith in elim no [ ];
    }

pub loop-i-preserved : goal.loop-i-preserved
loop-i-preserved c = (
  at_some c.args.readings.now c.loop-i.i _ c.in-Some.value c.loop-i-test.true c.in-Some.is c.loop-i.invariant.0,
  put_some c.args.readings.now c.loop-i.i _ c.in-Some.value (length c.clear.new.buffer) c.loop-i.to c.loop-i-test.true (omega (arith, c.requires)) c.in-Some.is c.loop-i.invariant.1,
)

pub returns : goal.returns
unfolding present
returns c =
    let end : length c.args.readings.now ≤ c.loop-i.i = omega arith in
    let same : length c.clear.new.buffer ≡ length c.args.to.now = omega arith in
    record {
      all = chosen _ _ (Ok tt) (Err (Other 1 0)) (sym (ap present (drop_all c.loop-i.i c.args.readings.now end)) ∙ c.loop-i.invariant.0);
      filled = λ e. c.loop-i.invariant.1 ∙ (λ i. padded (same i) (values (take_all c.loop-i.i c.args.readings.now end i)));
    }
