use Rattle.containers.proofs.Rounding.{Going}
use Rattle.containers.proofs.depths.rounds.Given as goal

abbrev pub invariant-loop-d : goal.invariant-loop-d
invariant-loop-d l = Going l.count l.initial.table l.table l.d
