use Rattle.containers.proofs.Deepening.{poisoning_start, poisoning_more, poisoning_done}
use Rattle.containers.proofs.depths.poison_the_rest.Goals as goal

pub loop-row-init : goal.loop-row-init
loop-row-init c = poisoning_start

pub loop-row-preserved : goal.loop-row-preserved
loop-row-preserved c = poisoning_more c.loop-row.invariant c.loop-row-test.true c.or_poisoned.ensures

pub returns : goal.returns
returns c = poisoning_done c.loop-row.invariant c.loop-row-test.false
