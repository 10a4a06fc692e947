use Rattle.plan.proofs.Calling.{put_bare, put_line}
use Rattle.plan.proofs.plan.Plan.put.Goals as goal

pub returns-in-Some : goal.returns-in-Some
returns-in-Some c =
    let made = c.in-Some.ensures in
    put_bare c.args.self.now.numbers c.args.self.now.unit c.in-Some.bare.length c.args.first.now c.args.second.now c.args.symbols.now c.put_on.result
    c.put_on.new.first c.put_on.new.second c.put_on.new.symbols made.0 made.1 c.put_on.ensures

pub returns : goal.returns
returns c =
    let line = c.in-Some-line.line in
    let made = c.in-Some-line.ensures in
    put_line c.args.self.now.numbers c.args.self.now.unit line.rate line.helical.grid.rows line.helical.grid.columns c.args.first.now c.args.second.now c.args.symbols.now
    c.put_on-in-Some-line.result c.put_on-in-Some-line.new.first c.put_on-in-Some-line.new.second c.put_on-in-Some-line.new.symbols made.0 made.1 made.2 made.3
    c.put_on-in-Some-line.ensures
