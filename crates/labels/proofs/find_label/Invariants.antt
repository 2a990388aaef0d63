use Rattle.labels.proofs.Finding.{Finding}
use Rattle.labels.proofs.find_label.Given as goal

abbrev pub invariant-loop-i : goal.invariant-loop-i
invariant-loop-i l = Finding l.work l.i l.count l.name
