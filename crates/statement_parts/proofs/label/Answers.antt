use Rattle.penne.specs.Tree.{label}
use Rattle.penne.specs.Read.{read_jump}
use Rattle.statement_parts.proofs.Fit.{unnamed}
use Rattle.statement_parts.proofs.Jumps.{jump_unread, label_twice, label_goes}
use Rattle.statement_parts.proofs.label.Goals.{then-outcome-gt1024, else-outcome-gt1024}
use Rattle.statement_parts.proofs.label.Goals as goal

pub returns-in_default : goal.returns-in_default
unfolding read_jump
returns-in_default c = λ l. unnamed _ c.read_identifier.ensures c.in_default.is

pub returns-in_default-number : goal.returns-in_default-number
returns-in_default-number c = λ l. jump_unread c.read_identifier.ensures label c.in-Ok.is c.number.ensures c.in_default-number.is

pub returns : goal.returns
returns c = λ l. elim c.if-outcome-gt1024.branch [
  | then-outcome-gt1024 w ↦ rw (w.st-is, w.answer-is, w.work-is) (label_twice c.read_identifier.ensures c.in-Ok.is c.number.ensures c.in-Ok-number.is c.outcome_of-outcome.ensures w.if-outcome-gt1024.true w.label_place.ensures w.duplicate_label-fault.ensures w.write_fault-st.ensures)
  | else-outcome-gt1024 w ↦ rw (w.st-is, w.answer-is, w.work-is) (label_goes c.read_identifier.ensures c.in-Ok.is c.number.ensures c.in-Ok-number.is c.outcome_of-outcome.ensures w.if-outcome-gt1024.false w.prune.ensures w.resolved.ensures w.jump-st.ensures)
]
