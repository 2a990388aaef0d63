use Rattle.scopes.proofs.Becoming.{poison_past, poison_at}
use Rattle.scopes.proofs.pruning.poison_variable.Goals as goal

pub returns-then-k-ge1024 : goal.returns-then-k-ge1024
returns-then-k-ge1024 c = poison_past c.if-k-ge1024.true

pub returns : goal.returns
returns c = poison_at c.if-k-ge1024.false c.set_word.ensures
