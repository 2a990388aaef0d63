use Rattle.walk.proofs.Leading.{number_ok, number_err, place_ok, place_err}
use mathlib.Core.Path.{refl}
use Rattle.penne.specs.Read.{read_boolean}
use Rattle.penne.specs.Tree.{boolean}
use Rattle.fields.proofs.Chain.{reads}
use Rattle.walk.proofs.Writing.{wrote_on}
use Rattle.walk.proofs.Leading.{walks, leads_skip, leads_unskip, leads_end}
use Rattle.walk.proofs.Copying.{spells_join, spelled_place, spelled_below}
use Rattle.expression_parts.proofs.Arms.{boolean_is}
use Rattle.expression_parts.proofs.boolean.Goals as goal

pub returns-in_default : goal.returns-in_default
unfolding read_boolean
returns-in_default c = λ l w. walks λ h a i. leads_unskip _ (number_err (reads c.below.ensures) c.in_default.is) refl

pub returns-in_default-number : goal.returns-in_default-number
unfolding read_boolean
returns-in_default-number c = λ l w. walks λ h a i. leads_skip _ (number_ok (reads c.below.ensures) c.in-Ok.is) refl λ x1 g1. leads_unskip _ (place_err c.number.ensures c.in_default-number.is) refl

pub returns : goal.returns
unfolding read_boolean
returns c = λ l w. walks λ h a i. leads_skip _ (number_ok (reads c.below.ensures) c.in-Ok.is) refl λ x1 g1. leads_skip _ (place_ok c.number.ensures c.in-Ok-number.is) refl λ x2 g2. leads_end (boolean x1 x2) refl (wrote_on i c.then_head-st.ensures) λ _. boolean_is a x1 x2 (spells_join ((spelled_below 2).is _ _ _ _ g1) (spelled_place.is _ _ _ _ g2))
