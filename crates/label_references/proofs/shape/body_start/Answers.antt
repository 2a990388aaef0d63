use Rattle.label_references.proofs.Starting.{start_other}
use Rattle.label_references.proofs.shape.body_start.Goals as goal

pub returns-else-kind-eq1 : goal.returns-else-kind-eq1
returns-else-kind-eq1 c = start_other _ _ c.in_ok-kind.ensures (rw c.in_ok-here.ensures.ok_part at c.count.ensures) c.declaration_counts.ensures c.if-kind-eq1.false
