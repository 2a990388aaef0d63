use Rattle.statement_parts.proofs.OwnNames.{declared_not, declared_as, declared_twice}
use Rattle.statement_parts.proofs.declared.Goals.{in-Ok-declare_variable, in-Err}
use Rattle.statement_parts.proofs.declared.Goals as goal

pub returns-in_default : goal.returns-in_default
returns-in_default c = declared_not c.read_identifier.ensures c.in_default.is

pub returns : goal.returns
returns c = elim c.match-declare_variable.branch [
  | in-Ok-declare_variable w ↦ rw (w.st-is, w.answer-is) (declared_as c.read_identifier.ensures c.in-Ok.is c.declare_variable.ensures w.in-Ok-declare_variable.is w.then_identifier-st.ensures)
  | in-Err w ↦ rw (w.st-is, w.answer-is) (declared_twice c.read_identifier.ensures c.in-Ok.is c.declare_variable.ensures w.in-Err.is w.write_fault-st.ensures)
]
