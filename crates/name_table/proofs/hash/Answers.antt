use Rattle.std.proofs.Common.{arith}
use Rattle.name_table.proofs.Marks.{hashing_start, hashing_more, hashing_done}
use Rattle.name_table.proofs.hash.Goals as goal

pub loop-byte-init : goal.loop-byte-init
loop-byte-init c = hashing_start

pub overflow_mul-h : goal.overflow_mul-h
overflow_mul-h c = omega (arith, c.loop-byte.invariant.small)

pub overflow_add-h : goal.overflow_add-h
overflow_add-h c = omega (arith, c.loop-byte.invariant.small, c.from.ensures, c.type_inv.name c.loop-byte.byte-index)

pub loop-byte-preserved : goal.loop-byte-preserved
loop-byte-preserved c = hashing_more c.loop-byte.invariant c.loop-byte-test.true c.from.ensures

pub returns : goal.returns
returns c = hashing_done c.loop-byte.invariant (omega arith)
