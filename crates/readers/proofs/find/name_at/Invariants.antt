use Prim.Native.Nat.{◌-◌}
use Rattle.readers.proofs.Naming.{Seeking}
use Rattle.readers.proofs.find.name_at.Given as goal

abbrev pub invariant-loop : goal.invariant-loop
invariant-loop l = Seeking l.tree l.fn.at l.n (l.n - l.counter) l.at
