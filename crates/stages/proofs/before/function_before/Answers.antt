use Rattle.stages.proofs.Earlier.{function_none, function_later, function_earlier}
use Rattle.stages.proofs.before.function_before.Goals as goal

pub returns-in_err-row : goal.returns-in_err-row
returns-in_err-row c = rw c.from_residual.ensures (function_none c.find_function_in.ensures c.in_err-row.was)

pub returns-then-row-st : goal.returns-then-row-st
returns-then-row-st c = function_earlier c.find_function_in.ensures c.in_ok-row.was c.if-row-st.true c.function_at-earlier.ensures c.duplicate.ensures

pub returns : goal.returns
returns c = function_later c.find_function_in.ensures c.in_ok-row.was c.if-row-st.false
