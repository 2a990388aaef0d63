use native.Mathlib.Omega.{arith}
use Rattle.stages.proofs.Naming.{counted_at}
use Rattle.stages.proofs.Seeking.{seeking_start, seeking_unread, seeking_never, seeking_found, seeking_more, seeking_none, main_uncounted}
use Rattle.stages.proofs.names.main_name.Goals as goal

pub returns-in_default : goal.returns-in_default
returns-in_default c = main_uncounted c.number.ensures c.in_default.is

pub loop-k-init : goal.loop-k-init
loop-k-init c = seeking_start

pub returns-in_default-number : goal.returns-in_default-number
returns-in_default-number c = seeking_unread c.loop-k.invariant c.number-in-loop-k.ensures c.loop-k-test.true (counted_at c.number.ensures c.in-Ok.is) c.in_default-number.is

pub returns-then-length-gt64 : goal.returns-then-length-gt64
returns-then-length-gt64 c = seeking_never c.loop-k.invariant c.number-in-loop-k.ensures c.loop-k-test.true (counted_at c.number.ensures c.in-Ok.is) c.in-Ok-number.is (omega arith)

pub returns-then-same : goal.returns-then-same
returns-then-same c = seeking_found c.loop-k.invariant c.number-in-loop-k.ensures c.loop-k-test.true c.in-Ok-number.is c.bytes_at.ensures c.same.ensures (counted_at c.number.ensures c.in-Ok.is) c.if-same.true

pub loop-k-preserved : goal.loop-k-preserved
loop-k-preserved c = seeking_more c.loop-k.invariant c.number-in-loop-k.ensures c.loop-k-test.true c.in-Ok-number.is c.bytes_at.ensures c.same.ensures c.if-same.false

pub returns : goal.returns
returns c = seeking_none c.loop-k.invariant (counted_at c.number.ensures c.in-Ok.is) c.loop-k-test.false
