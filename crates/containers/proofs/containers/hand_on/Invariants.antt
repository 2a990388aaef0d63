use Rattle.containers.proofs.Joining.{Handing}
use Rattle.containers.proofs.containers.hand_on.Given as goal

abbrev pub invariant-loop-row : goal.invariant-loop-row
invariant-loop-row l = Handing l.count l.container l.initial.rows l.rows l.row
