use Rattle.containers.proofs.Rounding.{going_start, going_more, going_over, going_done}
use Rattle.containers.proofs.depths.rounds.Goals as goal

pub loop-d-init : goal.loop-d-init
loop-d-init c = going_start

pub returns-then-not-round : goal.returns-then-not-round
returns-then-not-round c = going_over c.loop-d.invariant c.loop-d-test.true c.round.ensures (c.if-not-round.true)

pub loop-d-preserved : goal.loop-d-preserved
loop-d-preserved c = going_more c.loop-d.invariant c.loop-d-test.true c.round.ensures (c.if-not-round.false)

pub returns : goal.returns
returns c = going_done c.loop-d.invariant c.loop-d-test.false
