use Prim.Native.Nat.{◌-◌}
use Rattle.tree.proofs.Depths.{Coming}
use Rattle.tree.proofs.script.incoming_depths.Given as goal

abbrev pub invariant-loop : goal.invariant-loop
invariant-loop l = Coming l.tree l.count l.fn.at (l.count - l.counter) l.at
