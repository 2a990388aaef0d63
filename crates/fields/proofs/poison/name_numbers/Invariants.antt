use Rattle.std.proofs.Common.{◌-◌}
use Rattle.penne.specs.Reader.{many}
use Rattle.penne.specs.Read.{name}
use Rattle.fields.proofs.Lists.{Rest}
use Rattle.fields.proofs.poison.name_numbers.Given as goal

abbrev pub invariant-loop : goal.invariant-loop
invariant-loop l = Rest (many name l.count) name l.tree l.names l.fn.at (l.count - l.counter) l.at
