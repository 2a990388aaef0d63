use Rattle.stages.proofs.Seeking.{Seeking}
use Rattle.stages.proofs.names.main_name.Given as goal

abbrev pub invariant-loop-k : goal.invariant-loop-k
invariant-loop-k l = Seeking l.tree l.count l.first l.k l.at
