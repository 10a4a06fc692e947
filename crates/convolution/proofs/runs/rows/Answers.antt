-- The patterns of a rate of two generators.
use Rattle.convolution.proofs.Pattern.{kept_rows}
use Rattle.convolution.proofs.runs.rows.Goals as goal

pub returns-in-Half-clause-kept : goal.returns-in-Half-clause-kept
returns-in-Half-clause-kept c = kept_rows c.patterns.result c.args.phase _ _ c.in-Half.is c.requires c.patterns.ensures c.new.ensures.kept c.new-in-Half.ensures.kept
