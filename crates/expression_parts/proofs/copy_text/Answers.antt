use Rattle.fields.proofs.Chain.{skips}
use Rattle.expression_parts.proofs.Names.{bytes_refused, bytes_are}
use mathlib.Core.Path.{refl}
use Rattle.expression_parts.specs.Expressing.{text}
use Rattle.answer.proofs.Chain.{◌▸◌}
use Rattle.walk.proofs.Writing.{wrote_on}
use Rattle.walk.proofs.Leading.{walks, leads_skip, leads_unskip, leads_place, leads_unplace, leads_end}
use Rattle.expression_parts.proofs.Texts.{text_is}
use Rattle.expression_parts.proofs.ByKind.{bytes_is}
use Rattle.expression_parts.proofs.Names.{number_got}
use Rattle.expression_parts.proofs.copy_text.Goals as goal

pub returns-in_default : goal.returns-in_default
unfolding text
returns-in_default c = λ l w. walks λ h a i. leads_unskip _ (skips _ (bytes_refused c.number.ensures c.in_default.is)) refl

pub returns-in_default-raw : goal.returns-in_default-raw
unfolding text
returns-in_default-raw c = λ l w. walks λ h a i. leads_unskip _ (skips _ (bytes_are c.number.ensures c.in-Ok.is c.raw.ensures)) c.in_default-raw.is

pub returns-in_default-number : goal.returns-in_default-number
unfolding text
returns-in_default-number c = λ l w. walks λ h a i. leads_skip _ (skips _ (bytes_are c.number.ensures c.in-Ok.is c.raw.ensures)) c.in-Ok-raw.is λ b g. leads_unplace _ c.number-2.ensures c.in_default-number.is

pub returns : goal.returns
unfolding text
returns c = λ l w. walks λ h a i. leads_skip _ (skips _ (bytes_are c.number.ensures c.in-Ok.is c.raw.ensures)) c.in-Ok-raw.is λ b g. leads_place _ c.number-2.ensures c.in-Ok-number.is ((leads_end (b, _) refl (wrote_on i (c.then_head.ensures ▸ (c.then_copy.ensures ▸ c.then_number-st.ensures))) λ _. text_is a _ _ _ _ _ _ _ (bytes_is _ _ (number_got c.number.ensures c.in-Ok.is) g)))
