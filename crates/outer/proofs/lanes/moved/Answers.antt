-- Each lane is the next.
use Rattle.std.proofs.Common.{◌∙◌, arith}
use Rattle.std.proofs.lemmas.List.{get_or_past}
use Rattle.outer.proofs.Rows.{lane_moved}
use Rattle.outer.proofs.lanes.moved.Goals as goal

pub returns : goal.returns
returns c = record {
  each = λ l h. lane_moved c.args.v l (omega arith);
  last = lane_moved c.args.v 31 (omega arith) ∙ get_or_past c.args.v 32 0 (omega arith);
}
