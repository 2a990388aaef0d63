use Rattle.answer.proofs.Copying.{Copied}
use Rattle.answer.proofs.copy.put_bytes.Given as goal

abbrev pub invariant-loop-n : goal.invariant-loop-n
invariant-loop-n l = Copied l.xs l.initial.out l.out l.n
