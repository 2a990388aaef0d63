use mathlib.Core.Path.{refl, ◌∙◌}
use native.Mathlib.Omega.{arith}
use Rattle.label_references.proofs.Deciding.{deciding_start, deciding_done, deciding_stop, deciding_more}
use Rattle.label_references.proofs.declarations.Goals as goal

pub loop-row-init : goal.loop-row-init
loop-row-init c = (refl, λ m. deciding_start)

pub returns-in_err-at : goal.returns-in_err-at
returns-in_err-at c = λ m. deciding_stop (c.loop-row.invariant.1 m) (omega arith) (c.in_err-at.ensures m)

pub loop-row-preserved : goal.loop-row-preserved
loop-row-preserved c = (c.function_labels-next_id.auto.work ∙ c.loop-row.invariant.0, λ m. deciding_more (c.loop-row.invariant.1 m) (omega arith) c.function_labels-next_id.ensures (c.in_ok-at.ensures m) c.function_labels-next_id.auto.work)

pub returns : goal.returns
returns c = λ m. deciding_done (c.loop-row.invariant.1 m) (omega arith)
