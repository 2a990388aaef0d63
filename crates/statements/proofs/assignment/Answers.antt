use Rattle.penne.specs.Read.{read_assignment}
use Rattle.statement_parts.proofs.Fit.{unplaced}
use Rattle.statements.proofs.Arms.{assigned}
use Rattle.statements.proofs.assignment.Goals as goal

pub returns-in_default : goal.returns-in_default
unfolding read_assignment
returns-in_default c = unplaced _ c.number.ensures c.in_default.is

pub returns : goal.returns
returns c = assigned c.number.ensures _ c.in-Ok.is c.then_head-st.ensures c.expression.ensures c.reference.ensures
