use Prim.Native.Nat.{◌-◌}
use Rattle.stages.proofs.Naming.{Copying}
use Rattle.stages.proofs.names.then_names.Given as goal

abbrev pub invariant-loop : goal.invariant-loop
invariant-loop l = Copying l.tree l.initial.answer l.initial.w l.count l.first (l.count - l.counter) l.at l.w l.answer
