use Prim.Native.Nat.{◌-◌}
use Rattle.readers.proofs.Asking.{Skipping}
use Rattle.readers.proofs.nth_depth.Given as goal

abbrev pub invariant-loop : goal.invariant-loop
invariant-loop l = Skipping l.tree l.fn.at l.n (l.n - l.counter) l.at
