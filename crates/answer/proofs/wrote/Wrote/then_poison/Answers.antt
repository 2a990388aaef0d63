use borrow.Author.Rules.{rules}
use Rattle.answer.proofs.Fields.{poison_put}
use Rattle.answer.proofs.wrote.Wrote.then_poison.Goals as goal

pub returns : goal.returns
returns c = search (rules, poison_put)
