use Rattle.scopes.proofs.Jumping.{Sweeping}
use Rattle.scopes.proofs.scope.Scope.prune_at_label.Given as goal

abbrev pub invariant-loop-k : goal.invariant-loop-k
invariant-loop-k l = Sweeping l.fn.self.layer l.fn.self.count l.label l.note l.place l.initial.table l.table l.k
