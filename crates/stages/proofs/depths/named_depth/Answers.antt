use native.Mathlib.Omega.{arith}
use Rattle.stages.proofs.Deepening.{named_kept, named_none}
use Rattle.stages.proofs.depths.named_depth.Goals as goal

pub returns-in-0 : goal.returns-in-0
returns-in-0 c = named_kept c.in-0.is c.kept_depth.ensures

pub returns-in_default : goal.returns-in_default
returns-in_default c = named_none (grind arith) (grind arith)
