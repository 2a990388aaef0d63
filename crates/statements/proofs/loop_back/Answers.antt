use Rattle.statement_parts.proofs.Fit.{unplaced}
use Rattle.statements.proofs.Arms.{looped}
use Rattle.statements.proofs.loop_back.Goals as goal

pub returns-in_default : goal.returns-in_default
returns-in_default c = λ l w. unplaced _ c.number.ensures c.in_default.is

pub returns : goal.returns
returns c = λ l w. looped c.number.ensures c.in-Ok.is c.then_head-st.ensures
