use mathlib.Core.Path.{refl}
use mathlib.Core.Option.{none}
use Rattle.walk.proofs.Writing.{wrote_on}
use Rattle.walk.proofs.Leading.{leads_last, walks, leads_end}
use Rattle.walk.proofs.Choosing.{leads_unoption, leads_none, leads_some}
use Rattle.expression_parts.proofs.Names.{some_is, none_is}
use Rattle.expressions.proofs.option_expression.Goals as goal

pub returns-in_default : goal.returns-in_default
returns-in_default c = walks λ h a i. leads_unoption c.below.ensures _ c.in_default.is

pub returns-else-t-ne0 : goal.returns-else-t-ne0
returns-else-t-ne0 c = walks λ h a i. leads_none c.below.ensures _ c.in-Ok.is c.if-t-ne0.false (leads_end (none) refl (wrote_on i c.then_number-st.ensures) λ _. none_is a c.if-t-ne0.false)

pub returns-then-t-ne0 : goal.returns-then-t-ne0
returns-then-t-ne0 c = walks λ h a i. leads_some c.below.ensures _ c.in-Ok.is c.if-t-ne0.true (leads_last _ c.expression.ensures h (wrote_on i c.then_number-st.ensures) λ x _. some_is c.below.ensures c.in-Ok.is x a c.if-t-ne0.true)
