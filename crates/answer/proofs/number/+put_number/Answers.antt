use native.Mathlib.Omega.{arith}
use lib.ListN.{length-set}
use Rattle.answer.proofs.Laid.{front_count}
use Rattle.answer.proofs.NumberSteps.{number_none, number_one, number_bytes, number_full}
use Rattle.answer.proofs.number.+put_number.Goals as goal

pub returns-then-out-lt1 : goal.returns-then-out-lt1
returns-then-out-lt1 t c = number_none _ _ c.if-out-lt1.true

pub returns-then-value-lt128 : goal.returns-then-value-lt128
returns-then-value-lt128 t c = number_one _ _ c.if-value-lt128.true c.if-out-lt1.false

pub slice_bounds-put_number-count : goal.slice_bounds-put_number-count
slice_bounds-put_number-count t c = simp length-set (omega arith)

pub slice_bounds-put_number-start : goal.slice_bounds-put_number-start
slice_bounds-put_number-start t c = simp length-set (omega arith)

pub returns-in-Bytes : goal.returns-in-Bytes
returns-in-Bytes t c = number_bytes _ _ _ _ _ c.if-value-lt128.false (omega arith) c.if-out-lt1.false c.in-Bytes.is c.put_number.ensures

pub overflow_add-result : goal.overflow_add-result
overflow_add-result t c = omega (arith, front_count (returns-in-Bytes t c))

pub returns-in-NoRoom : goal.returns-in-NoRoom
returns-in-NoRoom t c = number_full _ _ _ _ c.if-value-lt128.false (omega arith) c.if-out-lt1.false c.in-NoRoom.is c.put_number.ensures
