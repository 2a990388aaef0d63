use native.Mathlib.Omega.{arith}
use Rattle.statements.proofs.Nesting.{blocked, if_unread, branched, else_not, no_else_lem, else_unread, or_else_lem, stms_not, stms}
use Rattle.penne.specs.Read.{read_block, read_if}
use Rattle.statements.proofs.Arms.{poisoned}
use Rattle.walk.proofs.Leading.{counted_more, counted_done}
use Rattle.statement_parts.proofs.Fit.{stms_listed, unplaced}
use Rattle.statements.proofs.Counted.{stmt_unread, stmt_deep, stmt_many, stmt_goes}
use Rattle.statements.proofs.+statements.Goals as goal

pub block-returns-in_default : goal.block-returns-in_default
unfolding read_block
block-returns-in_default t c = unplaced _ c.number.ensures c.in_default.is

pub block-returns : goal.block-returns
block-returns t c = blocked c.number.ensures _ c.in-Ok.is c.then_head-st.ensures c.push_scope.ensures c.statements.ensures c.pop_scope.ensures

pub branches-returns-in_default : goal.branches-returns-in_default
unfolding read_if
branches-returns-in_default t c = unplaced _ c.number.ensures c.in_default.is

pub branches-returns-in_default-operator : goal.branches-returns-in_default-operator
branches-returns-in_default-operator t c = if_unread c.number.ensures _ c.in-Ok.is c.operator.ensures c.in_default-operator.is

pub branches-returns : goal.branches-returns
branches-returns t c = branched c.number.ensures _ c.in-Ok.is c.operator.ensures c.in-Ok-operator.is c.then_head-st.ensures c.expression.ensures c.expression-2.ensures c.stmt.ensures c.else_branch.ensures

pub else_branch-returns-in_default : goal.else_branch-returns-in_default
else_branch-returns-in_default t c = else_not c.below.ensures _ c.in_default.is

pub else_branch-returns-then-t-eq0 : goal.else_branch-returns-then-t-eq0
else_branch-returns-then-t-eq0 t c = no_else_lem c.below.ensures _ c.in-Ok.is c.if-t-eq0.true c.then_number-st.ensures

pub else_branch-returns-in_default-number : goal.else_branch-returns-in_default-number
else_branch-returns-in_default-number t c = else_unread c.below.ensures _ c.in-Ok.is c.if-t-eq0.false c.number.ensures c.in_default-number.is

pub else_branch-returns : goal.else_branch-returns
else_branch-returns t c = or_else_lem c.below.ensures _ c.in-Ok.is c.if-t-eq0.false c.number.ensures c.in-Ok-number.is c.then_head-st.ensures c.stmt.ensures

pub statement_of-returns-in_default : goal.statement_of-returns-in_default
statement_of-returns-in_default t c = poisoned _ _ (omega arith) (c.copy_poison.ensures _ _)

pub statements-returns-in_default : goal.statements-returns-in_default
statements-returns-in_default t c = stms_not c.number.ensures _ c.in_default.is

pub statements-loop-preserved : goal.statements-loop-preserved
statements-loop-preserved t c = counted_more stms_listed c.loop.invariant c.loop-test.true c.stmt.ensures c.stmt.auto.answer c.stmt.auto.list c.stmt.auto.work

pub statements-returns : goal.statements-returns
statements-returns t c = stms c.number.ensures _ c.in-Ok.is c.then_number-st.ensures (counted_done stms_listed c.loop.invariant c.loop-test.false)

pub stmt-returns-in_default : goal.stmt-returns-in_default
stmt-returns-in_default t c = stmt_unread c.below.ensures _ c.in_default.is

pub stmt-returns-then-left-eq0 : goal.stmt-returns-then-left-eq0
stmt-returns-then-left-eq0 t c = stmt_deep c.below.ensures _ c.in-Ok.is c.if-left-eq0.true

pub stmt-returns-in_default-count : goal.stmt-returns-in_default-count
stmt-returns-in_default-count t c = stmt_many c.below.ensures _ c.in-Ok.is c.count.ensures c.statement_counts.ensures c.if-left-eq0.false c.in_default-count.is

pub stmt-returns : goal.stmt-returns
stmt-returns t c = stmt_goes c.below.ensures c.in-Ok.is c.if-left-eq0.false c.count.ensures c.statement_counts.ensures c.in-Some.is c.statement_of.ensures
