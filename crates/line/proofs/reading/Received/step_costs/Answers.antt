-- The slots of a step, one after another.
use Rattle.std.proofs.Common.{ℕ, false, get_or, arith}
use Rattle.line.specs.Line.{block_size, rule_prices}
use Rattle.line.proofs.Stepping.{step_priced, step_room, step_end, step_small}
use Rattle.line.proofs.reading.Received.step_costs.Goals as goal

pub slot_costs-i1-requires : goal.slot_costs-i1-requires
slot_costs-i1-requires g c =
    omega (arith, step_room c.args.self.now.rate c.args.step c.kept.result c.requires.at c.kept.ensures (block_size c.args.self.now.rule) c.requires.inside)

pub slot_costs-i2-requires : goal.slot_costs-i2-requires
slot_costs-i2-requires g c =
    omega (arith, step_room c.args.self.now.rate c.args.step c.kept.result c.requires.at c.kept.ensures (block_size c.args.self.now.rule) c.requires.inside, c.slot_costs-i1.ensures.next)

pub slot_costs-i3-requires : goal.slot_costs-i3-requires
slot_costs-i3-requires g c =
    omega (arith, step_room c.args.self.now.rate c.args.step c.kept.result c.requires.at c.kept.ensures (block_size c.args.self.now.rule) c.requires.inside, c.slot_costs-i1.ensures.next, c.slot_costs-i2.ensures.next)

pub returns : goal.returns
returns g c =
    let e0 = c.slot_costs-i1.ensures in
    let e1 = c.slot_costs-i2.ensures in
    let e2 = c.slot_costs-i3.ensures in
    let k = λ (n : ℕ). get_or c.kept.result n false in
    let price = rule_prices g.R.Reading.cost c.args.self.now.rule c.args.self.now.readings.now in
    record {
      priced =
          step_priced c.args.self.now.rate price c.args.step c.args.i c.requires.at (k 0) (k 1) (k 2) (c.kept.ensures 0 (omega arith)) (c.kept.ensures 1 (omega arith)) (c.kept.ensures 2 (omega arith)) _ _ _ _ _ _ _ _ e0.next e1.next
          e0.zero e1.zero e2.zero e0.one e1.one e2.one;
      small = step_small _ _ _ _ _ _ e0.small e1.small e2.small;
      next = step_end c.args.self.now.rate c.args.step c.kept.result c.requires.at c.kept.ensures _ _ _ e0.next e1.next e2.next;
    }
