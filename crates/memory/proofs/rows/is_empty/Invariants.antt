use Rattle.memory.proofs.Bits.{Vacating}
use Rattle.memory.proofs.rows.is_empty.Given as goal

abbrev pub invariant-loop-q : goal.invariant-loop-q
invariant-loop-q l = Vacating l.w l.row l.q
