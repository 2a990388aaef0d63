use native.Mathlib.Omega.{arith}
use Rattle.answer.proofs.Chain.{after_none, after_past, after_bytes, after_full, after_count}
use Rattle.answer.proofs.wrote.Wrote.then_bytes.Goals as goal

pub returns-then-out-n : goal.returns-then-out-n
returns-then-out-n c = after_past c.in-Bytes.is c.if-out-n.true

pub overflow_add-result : goal.overflow_add-result
overflow_add-result c = omega (arith, after_count c.args.out.now c.in-Bytes.n c.in-Bytes-put_bytes.is c.put_bytes.ensures)

pub returns-in-NoRoom : goal.returns-in-NoRoom
returns-in-NoRoom c = after_none c.in-NoRoom.is

pub returns-in-Bytes-put_bytes : goal.returns-in-Bytes-put_bytes
returns-in-Bytes-put_bytes c = after_bytes _ _ _ _ _ c.in-Bytes.is c.if-out-n.false c.in-Bytes-put_bytes.is c.put_bytes.ensures

pub returns-in-NoRoom-put_bytes : goal.returns-in-NoRoom-put_bytes
returns-in-NoRoom-put_bytes c = after_full _ _ _ _ c.in-Bytes.is c.if-out-n.false c.in-NoRoom-put_bytes.is c.put_bytes.ensures
