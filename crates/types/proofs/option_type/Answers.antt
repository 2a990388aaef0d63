use mathlib.Core.Bool.{false}
use Rattle.types.proofs.Maybes.{option_unread, option_none, option_some}
use Rattle.types.proofs.option_type.Goals as goal

pub returns-in_default : goal.returns-in_default
returns-in_default c = λ l. option_unread _ c.below.ensures c.in_default.is

pub returns-then-t-ne0 : goal.returns-then-t-ne0
returns-then-t-ne0 c = λ l. option_some _ c.below.ensures c.in-Ok.is c.then_number-st.ensures c.if-t-ne0.true (c.maybe_type.ensures false l)

pub returns-else-t-ne0 : goal.returns-else-t-ne0
returns-else-t-ne0 c = λ l. option_none _ c.below.ensures c.in-Ok.is c.then_number-st.ensures c.if-t-ne0.false
