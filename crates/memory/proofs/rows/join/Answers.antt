use borrow.Author.Rules.{rules}
use Rattle.memory.proofs.Bits.{joins_is}
use Rattle.memory.proofs.rows.join.Goals as goal

pub returns : goal.returns
returns c = joins_is (λ x y r e. search rules) c.mix.ensures
