use Prim.Native.Nat.{◌-◌}
use Rattle.answer.proofs.Runs.{Renumbering}
use Rattle.answer.proofs.wrote.Wrote.then_numbers.Given as goal

abbrev pub invariant-loop-at : goal.invariant-loop-at
invariant-loop-at l = Renumbering l.initial.c l.tree l.from l.to l.initial.out l.at l.c l.out

abbrev pub decreases-loop-at : goal.decreases-loop-at
decreases-loop-at l = l.to - l.at
