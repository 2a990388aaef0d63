use mathlib.Core.Path.{refl}
use Rattle.walk.proofs.Writing.{wrote_on}
use Rattle.walk.proofs.Leading.{walks, leads_skip, leads_unskip, leads_end}
use Rattle.expression_parts.proofs.Onward.{leads_ret}
use Rattle.expression_parts.proofs.past_operand.Goals as goal

pub returns-in_default : goal.returns-in_default
returns-in_default c = λ l w. walks λ h a i. leads_ret (leads_unskip _ c.expression.ensures c.in_default.is)

pub returns : goal.returns
returns c = λ l w. walks λ h a i. leads_ret (leads_skip _ c.expression.ensures c.in-Ok.is λ y _. leads_end y refl (wrote_on i c.write_fault-st.ensures) λ _. refl)
