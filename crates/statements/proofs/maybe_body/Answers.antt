use Rattle.statements.proofs.Bodies.{maybe_not, maybe_poison, maybe_ok}
use Rattle.statements.proofs.maybe_body.Goals as goal

pub returns-in_default : goal.returns-in_default
returns-in_default c = maybe_not c.below.ensures c.in_default.is

pub returns-then-t-ne0 : goal.returns-then-t-ne0
returns-then-t-ne0 c = maybe_poison c.below.ensures c.in-Ok.is c.if-t-ne0.true (c.copy_poison.ensures _ _)

pub returns : goal.returns
returns c = maybe_ok c.below.ensures c.in-Ok.is c.if-t-ne0.false c.then_number-st.ensures c.body.ensures
