use Rattle.containers.proofs.Deepening.{Deepening}
use Rattle.containers.proofs.depths.deepen_all.Given as goal

abbrev pub invariant-loop-row : goal.invariant-loop-row
invariant-loop-row l = Deepening l.count l.d l.initial.table l.table l.row
