use borrow.Author.Rules.{rules}
use Rattle.memory.proofs.Bits.{adds_is}
use Rattle.memory.proofs.rows.add.Goals as goal

pub returns : goal.returns
returns c = adds_is (search rules) c.word-x.ensures c.set_word.ensures
