use mathlib.Core.Path.{refl, ◌∙◌}
use native.Mathlib.Omega.{arith}
use Rattle.stages.proofs.Predeclaring.{coming_start, coming_more, all_halt, all_done}
use Rattle.stages.proofs.predeclare.predeclare_all.Goals as goal

pub loop-i-init : goal.loop-i-init
loop-i-init c = (refl, λ m. coming_start (omega arith))

pub returns-in_default : goal.returns-in_default
returns-in_default c = λ m. all_halt (c.loop-i.invariant.1 m) (omega arith) (c.past.ensures m) c.in_default.is

pub loop-i-preserved : goal.loop-i-preserved
loop-i-preserved c = (c.predeclare-next_id.auto.work ∙ c.loop-i.invariant.0, λ m. coming_more (c.loop-i.invariant.1 m) (omega arith) (c.past.ensures m) c.in-Ok.is c.predeclare-next_id.ensures c.predeclare-next_id.auto.work)

pub returns : goal.returns
returns c = λ m. all_done (c.loop-i.invariant.1 m) (omega arith)
