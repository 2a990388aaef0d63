use Prim.Native.Nat.{◌-◌}
use Rattle.entries.proofs.Params.{GoingParams}
use Rattle.entries.proofs.parameters.Given as goal

abbrev pub invariant-loop : goal.invariant-loop
invariant-loop l = GoingParams l.tree l.n l.initial.st l.initial.answer l.initial.work (l.n - l.counter) l.st l.answer l.work
