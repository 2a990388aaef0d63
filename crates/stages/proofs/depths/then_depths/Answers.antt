use mathlib.Core.Path.{refl, ◌∙◌}
use native.Mathlib.Omega.{arith}
use Rattle.stages.proofs.Saying.{saying_start, saying_more, said_halt, said_done}
use Rattle.stages.proofs.depths.then_depths.Goals as goal

pub loop-i-init : goal.loop-i-init
loop-i-init c = (refl, λ m. saying_start (omega arith))

pub returns-in_default : goal.returns-in_default
returns-in_default c = λ m. said_halt (c.loop-i.invariant.1 m) (omega arith) (c.past.ensures m) c.in_default.is

pub loop-i-preserved : goal.loop-i-preserved
loop-i-preserved c = (c.then_number-w.auto.out ∙ c.loop-i.invariant.0, λ m. saying_more (c.loop-i.invariant.1 m) (omega arith) (c.past.ensures m) c.in-Ok.is c.depth_of.ensures c.then_number-w.ensures c.then_number-w.auto.out)

pub returns : goal.returns
returns c = λ m. said_done (c.loop-i.invariant.1 m) (omega arith)
