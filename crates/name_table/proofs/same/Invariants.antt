use Rattle.name_table.proofs.Names.{SameBehind}
use Rattle.name_table.proofs.same.Given as goal

abbrev pub invariant-loop-i : goal.invariant-loop-i
invariant-loop-i l = SameBehind l.a l.b l.i
