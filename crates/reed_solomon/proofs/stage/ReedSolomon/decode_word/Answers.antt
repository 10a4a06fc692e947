-- The word has its code word, whose first bytes are the data.
use native.Mathlib.Nat.{sub-zero}
use Rattle.std.proofs.Common.{arith}
use Rattle.reed_solomon.proofs.Progress.{repaired_data}
use Rattle.reed_solomon.proofs.stage.ReedSolomon.decode_word.Goals as goal

pub returns : goal.returns
returns g c =
    repaired_data _ _ _ c.args.self.now.errors (omega arith) (simp sub-zero at c.copy_from_slice.ensures.after) c.in_ok-count.ensures
