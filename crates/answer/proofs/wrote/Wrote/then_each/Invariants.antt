use Rattle.answer.proofs.Runs.{Each}
use Rattle.answer.proofs.wrote.Wrote.then_each.Given as goal

abbrev pub invariant-loop-i : goal.invariant-loop-i
invariant-loop-i l = Each l.initial.c l.values l.initial.out l.i l.c l.out
