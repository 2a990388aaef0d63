use Rattle.penne.specs.Read.{read_method_call}
use Rattle.statement_parts.proofs.Fit.{unnamed}
use Rattle.statements.proofs.Arms.{method_unread, method_as, method_refused}
use Rattle.statements.proofs.method_call.Goals as goal

pub returns-in_default : goal.returns-in_default
unfolding read_method_call
returns-in_default c = unnamed _ c.read_identifier.ensures c.in_default.is

pub returns-in_default-number : goal.returns-in_default-number
returns-in_default-number c = method_unread c.read_identifier.ensures _ c.in-Ok.is c.number.ensures c.in_default-number.is

pub returns-in-Ok-use_called : goal.returns-in-Ok-use_called
returns-in-Ok-use_called c = method_as c.read_identifier.ensures _ c.in-Ok.is c.number.ensures c.in-Ok-number.is c.use_called.ensures c.in-Ok-use_called.is c.call_head.ensures c.expressions.ensures

pub returns-in-Err : goal.returns-in-Err
returns-in-Err c = method_refused c.read_identifier.ensures _ c.in-Ok.is c.number.ensures c.in-Ok-number.is c.use_called.ensures c.in-Err.is c.expressions-in-Err.ensures c.write_fault-st.ensures
