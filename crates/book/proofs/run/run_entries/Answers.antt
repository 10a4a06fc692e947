use Rattle.std.proofs.Common.{length, arith}
use Rattle.book.proofs.Covering.{passed}
use Rattle.book.proofs.Recording.{none_reached, none_recorded}
use Rattle.book.proofs.run.run_entries.Goals as goal

pub loop-e-init : goal.loop-e-init
loop-e-init c = (
  none_reached c.args.file.now c.args.results.now (length c.args.records.now) c.requires.room.1.1 c.requires.idle.1,
  none_recorded c.args.file.now c.args.records.now,
  c.requires.idle.0,
  omega (arith, (passed c.args.file.now c.requires.right).contents, c.requires.room.1.1),
  omega arith,
)
