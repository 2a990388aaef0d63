use native.Mathlib.Omega.{arith}
use Rattle.stages.proofs.Naming.{copying_start, copying_unread, copying_never, copying_more, copying_done, counted_at, names_uncounted}
use Rattle.stages.proofs.names.then_names.Goals as goal

pub returns-in_default : goal.returns-in_default
returns-in_default c = names_uncounted c.number.ensures c.in_default.is

pub loop-init : goal.loop-init
loop-init c = copying_start c.then_number-w.ensures

pub returns-in_default-number : goal.returns-in_default-number
returns-in_default-number c = copying_unread c.loop.invariant c.number-in-loop.ensures (omega arith) (counted_at c.number.ensures c.in-Ok.is) c.in_default-number.is

pub returns-then-length-gt64 : goal.returns-then-length-gt64
returns-then-length-gt64 c = copying_never c.loop.invariant c.number-in-loop.ensures (omega arith) c.in-Ok-number.is (counted_at c.number.ensures c.in-Ok.is) (omega arith)

pub loop-preserved : goal.loop-preserved
loop-preserved c = copying_more c.loop.invariant c.number-in-loop.ensures (omega arith) c.in-Ok-number.is (omega arith) c.then_name-w.ensures c.then_name-w.auto.answer

pub returns : goal.returns
returns c = copying_done c.loop.invariant c.then_number-w.ensures (counted_at c.number.ensures c.in-Ok.is) (omega arith)
