use Rattle.limits.proofs.Within.{sound}
use Rattle.plan.proofs.plan.Plan.code.Goals as goal

pub unreachable-requires : goal.unreachable-requires
unreachable-requires c =
    let s = (sound c.args.self.now.numbers c.args.self.now.within).code in
    c.in_default.ensures (record {
      root = s.root;
      words_low = s.words_low;
      words_high = s.words_high;
      data_low = s.length_low;
      errors_low = s.errors_low;
      errors_high = s.errors_high;
      room = s.room;
    })
