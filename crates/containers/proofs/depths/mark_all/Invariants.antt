use Rattle.containers.proofs.Marking.{Marking}
use Rattle.containers.proofs.depths.mark_all.Given as goal

abbrev pub invariant-loop-row : goal.invariant-loop-row
invariant-loop-row l = Marking l.count l.initial.table l.table l.row
