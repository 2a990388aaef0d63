use Rattle.scopes.proofs.Scoping.{Closing}
use Rattle.scopes.proofs.scope.Scope.close.Given as goal

abbrev pub invariant-loop-k : goal.invariant-loop-k
invariant-loop-k l = Closing l.outer.count l.fn.self.count l.initial.table l.table l.k
