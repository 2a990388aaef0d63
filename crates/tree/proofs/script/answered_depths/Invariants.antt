use Prim.Native.Nat.{◌-◌}
use Rattle.tree.proofs.Depths.{Again}
use Rattle.tree.proofs.script.answered_depths.Given as goal

abbrev pub invariant-loop : goal.invariant-loop
invariant-loop l = Again l.tree l.fn.layout (l.fn.layout.count - l.counter) l.declared l.counts l.at
