use Rattle.walk.proofs.Leading.{number_ok, number_err}
use mathlib.Core.Path.{refl}
use Rattle.penne.specs.Read.{step_of}
use Rattle.penne.specs.Tree.{member}
use Rattle.fields.proofs.Chain.{reads}
use Rattle.walk.proofs.Writing.{wrote_on}
use Rattle.walk.proofs.Leading.{walks, leads_skip, leads_unskip, leads_end}
use Rattle.walk.proofs.Copying.{spells_join, spelled_num, spelled_ident}
use Rattle.expression_parts.proofs.Arms.{member_is}
use Rattle.expression_parts.proofs.member.Goals as goal

pub returns-in_default : goal.returns-in_default
unfolding step_of
returns-in_default c = λ l w. walks λ h a i. leads_unskip _ c.past_identifier.ensures c.in_default.is

pub returns-in_default-number : goal.returns-in_default-number
unfolding step_of
returns-in_default-number c = λ l w. walks λ h a i. leads_skip _ c.past_identifier.ensures c.in-Ok.is λ x1 g1. leads_unskip _ (number_err (reads c.number.ensures) c.in_default-number.is) refl

pub returns : goal.returns
unfolding step_of
returns c = λ l w. walks λ h a i. leads_skip _ c.past_identifier.ensures c.in-Ok.is λ x1 g1. leads_skip _ (number_ok (reads c.number.ensures) c.in-Ok-number.is) refl λ x2 g2. leads_end (member x1 x2) refl (wrote_on i c.then_head-st.ensures) λ _. member_is a x1 x2 (spells_join (spelled_ident.is _ _ _ _ g1) (spelled_num.is _ _ _ _ g2))
