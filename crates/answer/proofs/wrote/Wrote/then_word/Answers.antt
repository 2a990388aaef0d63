use Rattle.answer.proofs.Chain.{after_none}
use Rattle.answer.proofs.Words.{word_put, word_full}
use Rattle.answer.proofs.wrote.Wrote.then_word.Goals as goal

pub returns-then-list-n : goal.returns-then-list-n
returns-then-list-n c = word_full c.in-Bytes.is c.if-list-n.true

pub returns-in-NoRoom : goal.returns-in-NoRoom
returns-in-NoRoom c = after_none c.in-NoRoom.is

pub returns-else-list-n : goal.returns-else-list-n
returns-else-list-n c = word_put _ c.in-Bytes.is c.if-list-n.false
