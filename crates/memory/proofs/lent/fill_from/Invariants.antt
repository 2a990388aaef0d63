use Prim.Native.Nat.{◌-◌}
use mathlib.Core.Path.{◌≡◌}
use mathlib.Core.List.{◌++◌}
use lib.ListN.{take, drop, replicate}
use Rattle.memory.proofs.lent.fill_from.Given as goal

abbrev pub invariant-loop-i : goal.invariant-loop-i
invariant-loop-i g l = l.s ≡ take l.from l.initial.s ++ replicate (l.i - l.from) l.v ++ drop l.i l.initial.s
