use Rattle.hurdlebraid.proofs.Telling.{telling_start, telling_more, telling_done}
use Rattle.hurdlebraid.proofs.tell.Goals as goal

pub loop-i-init : goal.loop-i-init
loop-i-init c = telling_start

pub loop-i-preserved : goal.loop-i-preserved
loop-i-preserved c = telling_more c.loop-i.invariant c.loop-i-test.true c.word.ensures

pub returns : goal.returns
returns c = telling_done c.loop-i.invariant c.loop-i-test.false
