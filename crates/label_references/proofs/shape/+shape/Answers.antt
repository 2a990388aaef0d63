use native.Mathlib.Omega.{arith}
use Rattle.penne.specs.Read.{stmt_of, stmt_kinds}
use Rattle.label_references.proofs.Laying.{lay_arm, leaf_arm, list_read, laying_start, laying_done, laying_halt, laying_more}
use Rattle.label_references.proofs.shape.+shape.Goals as goal

pub lay-returns-in-4 : goal.lay-returns-in-4
unfolding stmt_of stmt_kinds
lay-returns-in-4 t c = lay_arm _ _ c.in_ok-kind.ensures (rw c.in_ok-here.ensures.ok_part at c.count.ensures) c.statement_counts.ensures c.if-left-eq0.false c.in-4.is (c.lay_goto.ensures _)

pub lay-returns-in-5 : goal.lay-returns-in-5
unfolding stmt_of stmt_kinds
lay-returns-in-5 t c = lay_arm _ _ c.in_ok-kind.ensures (rw c.in_ok-here.ensures.ok_part at c.count.ensures) c.statement_counts.ensures c.if-left-eq0.false c.in-5.is (c.lay_label.ensures _)

pub lay-returns-in-6 : goal.lay-returns-in-6
unfolding stmt_of stmt_kinds
lay-returns-in-6 t c = lay_arm _ _ c.in_ok-kind.ensures (rw c.in_ok-here.ensures.ok_part at c.count.ensures) c.statement_counts.ensures c.if-left-eq0.false c.in-6.is c.lay_branches.ensures

pub lay-returns-in-7 : goal.lay-returns-in-7
unfolding stmt_of stmt_kinds
lay-returns-in-7 t c = lay_arm _ _ c.in_ok-kind.ensures (rw c.in_ok-here.ensures.ok_part at c.count.ensures) c.statement_counts.ensures c.if-left-eq0.false c.in-7.is c.lay_block.ensures

pub lay-returns-in_default : goal.lay-returns-in_default
lay-returns-in_default t c = leaf_arm _ _ c.in_ok-kind.ensures (rw c.in_ok-here.ensures.ok_part at c.count.ensures) c.statement_counts.ensures c.if-left-eq0.false (omega arith) (omega arith) (omega arith) (omega arith) c.lay_leaf.ensures

pub lay_list-loop-init : goal.lay_list-loop-init
lay_list-loop-init t c = laying_start (omega arith)

pub lay_list-returns-in_err-so_far : goal.lay_list-returns-in_err-so_far
lay_list-returns-in_err-so_far t c = list_read _ _ c.in_ok-count.ensures (laying_halt c.loop.invariant (omega arith) c.in_err-so_far.ensures)

pub lay_list-loop-preserved : goal.lay_list-loop-preserved
lay_list-loop-preserved t c = laying_more c.loop.invariant (omega arith) (omega arith) c.in_ok-so_far.ensures c.lay.auto.work

pub lay_list-returns : goal.lay_list-returns
lay_list-returns t c = list_read _ _ c.in_ok-count.ensures (laying_done c.loop.invariant (omega arith))
