use Rattle.containers.proofs.Marking.{Releasing}
use Rattle.containers.proofs.depths.release_rows.Given as goal

abbrev pub invariant-loop-row : goal.invariant-loop-row
invariant-loop-row l = Releasing l.count l.initial.rows l.rows l.row
