use borrow.Author.Rules.{rules}
use Rattle.answer.proofs.Chain.{then_more}
use Rattle.answer.proofs.wrote.Wrote.then_head.Goals as goal

pub returns : goal.returns
returns c = search (rules, then_more)
