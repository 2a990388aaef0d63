use borrow.Author.Rules.{rules}
use Rattle.answer.proofs.Copying.{copied_none, copied_more, copied_done, copied_full}
use Rattle.answer.proofs.copy.put_bytes.Goals as goal

pub loop-n-init : goal.loop-n-init
loop-n-init c = copied_none _ _

pub returns-then-out-n : goal.returns-then-out-n
returns-then-out-n c = copied_full c.loop-n.invariant (search rules) (search rules)

pub loop-n-preserved : goal.loop-n-preserved
loop-n-preserved c = copied_more c.loop-n.invariant (search rules) (search rules)

pub returns : goal.returns
returns c = copied_done c.loop-n.invariant (search rules)
