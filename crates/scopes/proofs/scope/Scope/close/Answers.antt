use Rattle.scopes.proofs.Scoping.{closing_start, closing_more, closed}
use Rattle.scopes.proofs.scope.Scope.close.Goals as goal

pub loop-k-init : goal.loop-k-init
loop-k-init c = closing_start

pub loop-k-preserved : goal.loop-k-preserved
loop-k-preserved c = closing_more c.loop-k.invariant c.loop-k-test.true c.vacate.ensures

pub returns : goal.returns
returns c = closed c.loop-k.invariant c.loop-k-test.false
