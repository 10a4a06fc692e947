-- Each turn makes one unit.
use Rattle.std.proofs.Common.{◌+◌, ◌-◌, ◌*◌, ◌≤◌, length, take, drop, refl, sym, ap, ◌∙◌, zero-mul, arith}
use Rattle.stages.specs.Sequence.{key, key_at, key_from, keyed, randomised}
use Rattle.stages.specs.Sequences.{keyed_all, unit_end, unit_more, units_all}
use Rattle.stages.proofs.sequence.add_sequence.Goals as goal

pub loop-u-init : goal.loop-u-init
unfolding randomised
loop-u-init c = rw (zero-mul c.args.unit) refl

pub loop-u-preserved : goal.loop-u-preserved
unfolding key
loop-u-preserved c =
    let u = c.loop-u.u in
    let unit = c.args.unit in
    let body = c.loop-u.body in
    let part = take ((u + 1) * unit - u * unit) (drop (u * unit) body) in
    let within : (u + 1) * unit ≤ length body = omega (arith, unit_end (length c.args.body.now) unit u c.loop-u-test.true) in
    unit_more c.args.seed unit u body c.add_to_unit.new.part within (c.add_to_unit.ensures ∙ ap (λ reg. keyed (key_from reg) 0 part) c.loaded-register.ensures) ∙ c.loop-u.invariant

pub returns : goal.returns
returns c =
    let n = length c.args.body.now in
    let all : length c.loop-u.body ≤ c.loop-u.u * c.args.unit = omega (arith, units_all n c.args.unit c.loop-u.u c.requires.whole c.loop-u-test.false) in
    sym (keyed_all (key_at c.args.seed c.args.unit) c.loop-u.body (c.loop-u.u * c.args.unit) all) ∙ c.loop-u.invariant
