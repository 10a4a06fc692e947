use Rattle.std.proofs.Common.{not, ap, ◌∙◌}
use Rattle.limits.specs.Limits.{on_bare}
use Rattle.plan.specs.Stacks.{line_plan}
use Rattle.limits.proofs.Within.{sound}
use Rattle.plan.proofs.Giving.{given_line}
use Rattle.book.proofs.Fitting.{entry_read, air_line}
use Rattle.book.proofs.run.read_marks.Goals as goal

pub returns : goal.returns
returns g c =
    let p = c.args.plan.now in
    entry_read (not (on_bare p.numbers)) p.numbers ((line_plan g.R.Reading.cost g.R.Reading.clean p.numbers p.unit).got c.args.readings.now) c.args.first.now c.args.second.now c.args.steps.now c.args.readings.now c.get_marks-given.result
    c.get_marks-given.new.first c.get_marks-given.new.second c.get_marks-given.new.steps c.args.part.now (ap not c.requires.line.0) c.requires.room.1.0 c.requires.room.0 c.requires.room.1.1 c.requires.line.1 c.requires.part c.get_marks-given.ensures
    c.hand_up.new.part c.hand_up.new.first c.hand_up.result c.get_marks-given.auto.first
    (given_line g.R.Reading.cost g.R.Reading.clean g.met.R.Reading.clean_free g.met.R.Reading.clean_dear p.numbers p.unit (sound p.numbers p.within) c.requires.line.0 c.args.readings.now (c.requires.line.1 ∙ air_line p.numbers c.requires.line.0))
    c.hand_up.ensures.answer c.hand_up.ensures.part c.hand_up.ensures.first
