use native.Mathlib.Omega.{arith}
use Rattle.answer.proofs.Chain.{◌▸◌, put_none, put_within}
use Rattle.answer.proofs.Runs.{each_start, each_more, each_done}
use Rattle.answer.proofs.wrote.Wrote.then_each.Goals as goal

pub loop-i-init : goal.loop-i-init
loop-i-init c = each_start (put_none (put_within c.settled-c.ensures))

pub loop-i-preserved : goal.loop-i-preserved
loop-i-preserved c = each_more c.loop-i.invariant (omega arith) c.then_number-c.ensures

pub returns : goal.returns
returns c = c.settled-c.ensures ▸ each_done _ c.loop-i.invariant (omega arith)
