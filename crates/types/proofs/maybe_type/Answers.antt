use Rattle.types.proofs.Maybes.{maybe_unread, maybe_poison, maybe_fine, maybe_bad}
use Rattle.types.proofs.maybe_type.Goals as goal

pub returns-in_default : goal.returns-in_default
returns-in_default c = λ own l. maybe_unread _ c.below.ensures c.in_default.is

pub returns-then-t-ne0 : goal.returns-then-t-ne0
returns-then-t-ne0 c = λ own l. maybe_poison _ c.below.ensures c.in-Ok.is c.if-t-ne0.true (c.copy_poison.ensures l _)

pub returns-in_default-value_type : goal.returns-in_default-value_type
returns-in_default-value_type c = λ own l. maybe_fine _ c.below.ensures c.in-Ok.is c.if-t-ne0.false c.then_number-st.ensures (c.in_default-value_type.ensures own l)

pub returns-in-Err : goal.returns-in-Err
returns-in-Err c = λ own l. maybe_bad _ c.below.ensures c.in-Ok.is c.if-t-ne0.false c.then_number-st.ensures (c.in-Err.ensures own l) c.write_fault-st.ensures
