use borrow.Author.Rules.{rules}
use Rattle.label_references.proofs.Deciding.{pass_short, pass_done}
use Rattle.label_references.proofs.label_references.Goals as goal

pub returns-then-work-lt-WORDS : goal.returns-then-work-lt-WORDS
returns-then-work-lt-WORDS c = λ m. pass_short c.if-work-lt-WORDS.true

pub returns : goal.returns
returns c = λ m. pass_done (search rules) (c.declarations.ensures m) c.declarations.auto.work (c.fill.ensures.after (λ y e. e)) (search rules)
