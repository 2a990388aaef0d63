use Rattle.walk.proofs.Leading.{place_ok, place_err}
use Rattle.fields.proofs.Chain.{skips}
use mathlib.Core.Path.{refl}
use Rattle.penne.specs.Read.{read_integer}
use Rattle.answer.proofs.Chain.{◌▸◌}
use Rattle.walk.proofs.Writing.{wrote_on}
use Rattle.walk.proofs.Leading.{walks, leads_skip, leads_unskip, leads_end}
use Rattle.walk.proofs.Copying.{spells_join, spelled_place}
use Rattle.walk.proofs.Carrying.{spelled_carried}
use Rattle.expression_parts.proofs.Arms.{integer_is}
use Rattle.expression_parts.proofs.ByKind.{raw_is}
use Rattle.expression_parts.proofs.integer.Goals as goal

pub returns-in_default : goal.returns-in_default
unfolding read_integer
returns-in_default c = λ f j l w. walks λ h a i. leads_unskip _ (skips _ c.raw.ensures) c.in_default.is

pub returns-in_default-number : goal.returns-in_default-number
unfolding read_integer
returns-in_default-number c = λ f j l w. walks λ h a i. leads_skip _ (skips _ c.raw.ensures) c.in-Ok.is λ x1 g1. leads_unskip _ (place_err c.number.ensures c.in_default-number.is) refl

pub returns-in_default-carried : goal.returns-in_default-carried
unfolding read_integer
returns-in_default-carried c = λ f j l w. walks λ h a i. leads_skip _ (skips _ c.raw.ensures) c.in-Ok.is λ x1 g1. leads_skip _ (place_ok c.number.ensures c.in-Ok-number.is) refl λ x2 g2. leads_unskip _ c.carried.ensures c.in_default-carried.is

pub returns : goal.returns
unfolding read_integer
returns c = λ f j l w. walks λ h a i. leads_skip _ (skips _ c.raw.ensures) c.in-Ok.is λ x1 g1. leads_skip _ (place_ok c.number.ensures c.in-Ok-number.is) refl λ x2 g2. leads_skip _ c.carried.ensures c.in-Ok-carried.is λ x3 g3. leads_end (f x1 x2 x3) refl (wrote_on i (c.then_number.ensures ▸ (c.then_copy.ensures ▸ c.then_numbers-st.ensures))) λ _. integer_is a _ x2 x3 j (raw_is 16 _ _ g1) (spells_join (spelled_place.is _ _ _ _ g2) ((spelled_carried _).is _ _ _ _ g3))
