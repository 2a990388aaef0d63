use borrow.Author.Rules.{rules}
use Rattle.memory.proofs.Bits.{removes_is}
use Rattle.memory.proofs.rows.remove.Goals as goal

pub returns : goal.returns
returns c = removes_is (λ x y r e. search rules) c.mix.ensures
