use Rattle.hurdlebraid.specs.Telling.{told_by}
use Rattle.hurdlebraid.proofs.Telling.{Telling}
use Rattle.hurdlebraid.proofs.tell.Given as goal

abbrev pub invariant-loop-i : goal.invariant-loop-i
invariant-loop-i l = Telling (told_by l.told) l.i l.initial.outcome l.outcome
