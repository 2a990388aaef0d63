use borrow.Author.Rules.{rules}
use Rattle.name_table.proofs.Names.{same_not_long, same_start, same_differ, same_on, same_done}
use Rattle.name_table.proofs.same.Goals as goal

pub returns-then-a-b : goal.returns-then-a-b
returns-then-a-b c = same_not_long _ _ c.if-a-b.true

pub loop-i-init : goal.loop-i-init
loop-i-init c = same_start c.if-a-b.false

pub returns-then-a-i : goal.returns-then-a-i
returns-then-a-i c = same_differ c.loop-i.invariant c.loop-i-test.true c.if-a-i.true

pub loop-i-preserved : goal.loop-i-preserved
loop-i-preserved c = same_on c.loop-i.invariant c.loop-i-test.true c.if-a-i.false

pub returns : goal.returns
returns c = same_done c.loop-i.invariant (search rules)
