use mathlib.Core.Path.{refl}
use Rattle.fields.proofs.Chain.{reads}
use Rattle.walk.proofs.Writing.{wrote_on}
use Rattle.walk.proofs.Leading.{walks, leads_at, leads_read, leads_unread, leads_end}
use Rattle.expression_parts.proofs.Onward.{leads_ret}
use Rattle.expression_parts.proofs.Arrays.{array_id_is}
use Rattle.expression_parts.proofs.array_id.Goals as goal

pub returns-in_default : goal.returns-in_default
returns-in_default c = λ l w. walks λ h a i. leads_ret (leads_unread _ (reads c.number.ensures) c.in_default.is)

pub returns : goal.returns
returns c = λ l w. walks λ h a i. leads_ret (leads_read _ (reads c.number.ensures) c.in-Ok.is ((leads_at c.create_anonymous_resolution_id.ensures.cur (leads_end _ refl (c.create_anonymous_resolution_id.ensures.is (wrote_on i c.then_number-st.ensures)) (array_id_is 0 i)))))
