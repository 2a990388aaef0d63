use Rattle.containers.proofs.Deepening.{Poisoning}
use Rattle.containers.proofs.depths.poison_the_rest.Given as goal

abbrev pub invariant-loop-row : goal.invariant-loop-row
invariant-loop-row l = Poisoning l.count l.initial.table l.table l.row
