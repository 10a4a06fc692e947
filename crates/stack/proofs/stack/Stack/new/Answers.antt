use Rattle.stack.proofs.Composing.{stacks_compose, nests}
use Rattle.stack.proofs.stack.Stack.new.Goals as goal

pub returns-then-meets-clause-nests : goal.returns-then-meets-clause-nests
returns-then-meets-clause-nests g c = nests _ _

pub returns-then-meets-clause-composes : goal.returns-then-meets-clause-composes
returns-then-meets-clause-composes g c = λ fit. stacks_compose _ (g.met.C.Carrier.rule _ fit)

pub returns-else-meets-clause-nests : goal.returns-else-meets-clause-nests
returns-else-meets-clause-nests g c = nests _ _

pub returns-else-meets-clause-composes : goal.returns-else-meets-clause-composes
returns-else-meets-clause-composes g c = λ fit. stacks_compose _ (g.met.C.Carrier.rule _ fit)
