use Rattle.penne.specs.Tree.{goto}
use Rattle.penne.specs.Read.{read_jump}
use Rattle.statement_parts.proofs.Fit.{unnamed}
use Rattle.statement_parts.proofs.Jumps.{jump_unread, goto_undefined, goto_label}
use Rattle.statement_parts.proofs.goto.Goals.{then-id-eq0, else-id-eq0}
use Rattle.statement_parts.proofs.goto.Goals as goal

pub returns-in_default : goal.returns-in_default
unfolding read_jump
returns-in_default c = λ l. unnamed _ c.read_identifier.ensures c.in_default.is

pub returns-in_default-number : goal.returns-in_default-number
returns-in_default-number c = λ l. jump_unread c.read_identifier.ensures goto c.in-Ok.is c.number.ensures c.in_default-number.is

pub returns : goal.returns
returns c = λ l. elim c.if-id-eq0.branch [
  | then-id-eq0 w ↦ rw (w.st-is, w.answer-is, w.work-is) (goto_undefined c.read_identifier.ensures c.in-Ok.is c.number.ensures c.in-Ok-number.is c.outcome_of-id.ensures w.if-id-eq0.true w.write_fault-st.ensures)
  | else-id-eq0 w ↦ rw (w.st-is, w.answer-is, w.work-is) (goto_label c.read_identifier.ensures c.in-Ok.is c.number.ensures c.in-Ok-number.is c.outcome_of-id.ensures w.if-id-eq0.false w.prepare.ensures w.resolved.ensures w.jump-st.ensures)
]
