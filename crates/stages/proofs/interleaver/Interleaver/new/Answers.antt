use Rattle.stages.specs.Moved.{byte_moves}
use Rattle.stages.proofs.interleaver.Interleaver.new.Goals as goal

pub returns-clause-moves : goal.returns-clause-moves
returns-clause-moves c = byte_moves c.args.words c.args.length

pub returns-in_err-block-clause-moves : goal.returns-in_err-block-clause-moves
returns-in_err-block-clause-moves c = byte_moves c.args.words c.args.length
