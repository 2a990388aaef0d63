use Rattle.name_table.proofs.Names.{Among}
use Rattle.name_table.proofs.among.Given as goal

abbrev pub invariant-loop : goal.invariant-loop
invariant-loop l = Among l.tree l.name l.count l.from l.counter l.at
