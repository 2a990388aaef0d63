use Rattle.scopes.proofs.Scoping.{declare_full, declared}
use Rattle.scopes.proofs.scope.Scope.declare.Goals as goal

pub returns-then-k-ge1024 : goal.returns-then-k-ge1024
returns-then-k-ge1024 c = declare_full c.if-k-ge1024.true

pub returns : goal.returns
returns c = declared c.enter.ensures c.lead.ensures
