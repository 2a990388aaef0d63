use Prim.Native.Nat.{◌-◌}
use Rattle.readers.proofs.Naming.{Passing}
use Rattle.readers.proofs.find.nth_declaration.Given as goal

abbrev pub invariant-loop : goal.invariant-loop
invariant-loop l = Passing l.tree l.names l.fn.at l.n (l.n - l.counter) l.counts l.at
