use Rattle.name_table.specs.Names.{names_from, Marked}
use Rattle.name_table.proofs.Names.{Tabling}
use Rattle.name_table.proofs.name_table.Given as goal

abbrev pub invariant-loop-done : goal.invariant-loop-done
invariant-loop-done l = Tabling l.count l.tree l.at l.done l.next × Marked l.cells (names_from l.done l.tree l.at)
