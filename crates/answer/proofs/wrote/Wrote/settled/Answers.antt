use Rattle.answer.proofs.Chain.{after_none, after_past, settled_is}
use Rattle.answer.proofs.wrote.Wrote.settled.Goals as goal

pub returns-then-out-n : goal.returns-then-out-n
returns-then-out-n c = after_past c.in-Bytes.is c.if-out-n.true

pub returns-in-NoRoom : goal.returns-in-NoRoom
returns-in-NoRoom c = after_none c.in-NoRoom.is

pub returns-else-out-n : goal.returns-else-out-n
returns-else-out-n c = settled_is c.in-Bytes.is c.if-out-n.false
