use Rattle.walk.proofs.Declaring.{pushed_is}
use Rattle.walk.proofs.Looking.{pushed_not, pushed_far}
use Rattle.walk.proofs.state.Walk.push_variable.Goals as goal

pub returns-then-work-lt-WORDS : goal.returns-then-work-lt-WORDS
returns-then-work-lt-WORDS c = pushed_not c.if-work-lt-WORDS.true

pub returns-then-from-gt65535 : goal.returns-then-from-gt65535
returns-then-from-gt65535 c = pushed_far c.if-from-gt65535.true

pub returns : goal.returns
returns c = pushed_is c.declare-scope.ensures c.next-self.ensures
