use Rattle.scopes.proofs.Scoping.{vacate_past, vacate_high, vacate_head, vacate_other}
use Rattle.scopes.proofs.scope.vacate.Goals as goal

pub returns-then-k-ge1024 : goal.returns-then-k-ge1024
returns-then-k-ge1024 c = vacate_past c.if-k-ge1024.true

pub returns-then-name-ge1024 : goal.returns-then-name-ge1024
returns-then-name-ge1024 c = vacate_high c.word-name.ensures c.if-name-ge1024.true

pub returns-then-word-k : goal.returns-then-word-k
returns-then-word-k c = vacate_head c.word-name.ensures c.if-name-ge1024.false c.word.ensures c.if-word-k.true c.set_word.ensures

pub returns-else-word-k : goal.returns-else-word-k
returns-else-word-k c = vacate_other c.word-name.ensures c.if-name-ge1024.false c.word.ensures c.if-word-k.false
