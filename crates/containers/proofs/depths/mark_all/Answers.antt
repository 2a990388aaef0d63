use Rattle.containers.proofs.Marking.{marking_start, marking_more, marking_done}
use Rattle.containers.proofs.depths.mark_all.Goals as goal

pub loop-row-init : goal.loop-row-init
loop-row-init c = marking_start

pub loop-row-preserved : goal.loop-row-preserved
loop-row-preserved c = marking_more c.loop-row.invariant c.loop-row-test.true c.mark.ensures

pub returns : goal.returns
returns c = marking_done c.loop-row.invariant c.loop-row-test.false
