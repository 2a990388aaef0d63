use Rattle.containers.proofs.Deepening.{deepening_start, deepening_more, deepening_done}
use Rattle.containers.proofs.depths.deepen_all.Goals as goal

pub loop-row-init : goal.loop-row-init
loop-row-init c = deepening_start

pub loop-row-preserved : goal.loop-row-preserved
loop-row-preserved c = deepening_more c.loop-row.invariant c.loop-row-test.true c.deepen.ensures

pub returns : goal.returns
returns c = deepening_done c.loop-row.invariant c.loop-row-test.false
