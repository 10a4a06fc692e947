use Rattle.std.proofs.Common.{rules}
use Rattle.book.specs.Contents.{line_at}
use Rattle.book.proofs.contents.read_line.Goals as goal

pub returns-clause-value : goal.returns-clause-value
unfolding line_at
returns-clause-value c = search rules
