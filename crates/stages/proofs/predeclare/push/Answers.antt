use borrow.Author.Rules.{rules}
use Rattle.stages.proofs.Predeclaring.{pushed_not, pushed_container, pushed_function}
use Rattle.stages.proofs.predeclare.push.Goals as goal

pub returns-then-work-lt-WORDS : goal.returns-then-work-lt-WORDS
returns-then-work-lt-WORDS c = pushed_not c.if-work-lt-WORDS.true

pub returns-in-0 : goal.returns-in-0
returns-in-0 c = pushed_container c.in-0.is c.push_container.ensures

pub returns-in_default : goal.returns-in_default
returns-in_default c = pushed_function (search rules) (search rules) c.push_function.ensures
