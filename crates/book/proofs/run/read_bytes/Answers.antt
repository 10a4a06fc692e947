use Rattle.std.proofs.Common.{◌∙◌, arith}
use Rattle.limits.specs.Limits.{on_bare}
use Rattle.plan.specs.Stacks.{bare_plan}
use Rattle.limits.proofs.Within.{sound}
use Rattle.plan.proofs.Giving.{given_bare}
use Rattle.book.proofs.Fitting.{entry_read, air_bare, steps_bare}
use Rattle.book.proofs.run.read_bytes.Goals as goal

pub returns : goal.returns
returns c =
    let p = c.args.plan.now in
    entry_read (on_bare p.numbers) p.numbers ((bare_plan p.numbers p.unit).got c.args.block.now) c.args.first.now c.args.second.now c.args.steps.now c.args.block.now c.get_bytes-given.result
    c.get_bytes-given.new.first c.get_bytes-given.new.second c.get_bytes-given.new.steps c.args.part.now c.requires.bare.0 c.requires.room.1 c.requires.room.0 (omega (arith, steps_bare p.numbers c.requires.bare.0)) c.requires.bare.1 c.requires.part c.get_bytes-given.ensures
    c.hand_up.new.part c.hand_up.new.first c.hand_up.result c.get_bytes-given.auto.first
    (given_bare p.numbers p.unit (sound p.numbers p.within) c.args.block.now (c.requires.bare.1 ∙ air_bare p.numbers c.requires.bare.0))
    c.hand_up.ensures.answer c.hand_up.ensures.part c.hand_up.ensures.first
