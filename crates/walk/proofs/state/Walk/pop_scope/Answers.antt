use Rattle.walk.proofs.Scoping.{closed_is}
use Rattle.walk.proofs.Looking.{closed_not}
use Rattle.walk.proofs.state.Walk.pop_scope.Goals as goal

pub returns-then-work-lt-WORDS : goal.returns-then-work-lt-WORDS
returns-then-work-lt-WORDS c = closed_not c.if-work-lt-WORDS.true

pub returns : goal.returns
returns c = closed_is c.close-self.ensures
