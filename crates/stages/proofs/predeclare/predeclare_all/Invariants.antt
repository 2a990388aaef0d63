use Prim.Native.Nat.{◌-◌}
use mathlib.Core.Path.{◌≡◌}
use lib.ListN.{length}
use Rattle.tree.specs.Ends.{Known}
use Rattle.stages.proofs.Predeclaring.{Coming}
use Rattle.stages.proofs.predeclare.predeclare_all.Given as goal

abbrev pub invariant-loop-i : goal.invariant-loop-i
invariant-loop-i l = (length l.work ≡ length l.initial.work) × (Known l.tree l.names l.ends → Coming l.tree l.names l.layout.count l.initial.at l.initial.counts l.initial.next_id l.initial.work (l.layout.count - l.i) l.at l.counts l.next_id l.work)
