use Prim.Native.Nat.{◌-◌}
use mathlib.Core.Path.{◌≡◌}
use lib.ListN.{length}
use Rattle.tree.specs.Ends.{Known}
use Rattle.stages.proofs.Saying.{Saying}
use Rattle.stages.proofs.depths.then_depths.Given as goal

abbrev pub invariant-loop-i : goal.invariant-loop-i
invariant-loop-i l = (length l.answer ≡ length l.initial.answer) × (Known l.tree l.names l.ends → Saying l.tree l.work l.script l.names l.layout.count l.initial.at l.initial.counts l.initial.w l.initial.answer (l.layout.count - l.i) l.at l.counts l.w l.answer)
