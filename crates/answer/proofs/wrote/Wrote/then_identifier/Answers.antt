use borrow.Author.Rules.{rules}
use Rattle.answer.specs.Parts.{identifier_b}
use Rattle.answer.proofs.Chain.{then_more}
use Rattle.answer.proofs.wrote.Wrote.then_identifier.Goals as goal

pub returns : goal.returns
unfolding identifier_b
returns c = search (rules, then_more)
