use Rattle.stages.proofs.Earlier.{container_none, container_later, container_earlier}
use Rattle.stages.proofs.before.container_before.Goals as goal

pub returns-in_err-row : goal.returns-in_err-row
returns-in_err-row c = rw c.from_residual.ensures (container_none c.find_in.ensures c.in_err-row.was)

pub returns-then-row-st : goal.returns-then-row-st
returns-then-row-st c = container_earlier c.find_in.ensures c.in_ok-row.was c.if-row-st.true c.container_at-earlier.ensures c.duplicate.ensures

pub returns : goal.returns
returns c = container_later c.find_in.ensures c.in_ok-row.was c.if-row-st.false
