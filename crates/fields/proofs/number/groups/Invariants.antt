use Rattle.std.proofs.Common.{◌-◌}
use Rattle.fields.proofs.Numbers.{Going}
use Rattle.fields.proofs.number.groups.Given as goal

abbrev pub invariant-loop : goal.invariant-loop
invariant-loop l = Going l.tree l.at (5 - l.counter) l.weight l.value l.here
