use Rattle.walk.proofs.Leading.{place_ok, place_err}
use mathlib.Core.Path.{refl}
use mathlib.Core.Bool.{false}
use Rattle.penne.specs.Read.{read_size_of}
use Rattle.penne.specs.Tree.{size_of}
use Rattle.walk.proofs.Leading.{walks, leads_skip, leads_unskip, leads_tried, leads_end}
use Rattle.walk.proofs.Writing.{wrote_on}
use Rattle.walk.proofs.Copying.{spelled_place}
use Rattle.expressions.proofs.Casts.{type_instead, size_of_is, size_of_bad}
use Rattle.expressions.proofs.size_of.Goals as goal

pub returns-in_default : goal.returns-in_default
unfolding read_size_of
returns-in_default c = λ l. walks λ h a i. leads_unskip _ (place_err c.number.ensures c.in_default.is) refl

pub returns-in_default-value_type : goal.returns-in_default-value_type
unfolding read_size_of
returns-in_default-value_type c = λ l. walks λ h a i. leads_skip _ (place_ok c.number.ensures c.in-Ok.is) refl λ x1 g1. leads_tried _ (c.in_default-value_type.ensures false _) h (wrote_on i c.then_head-st.ensures) λ x _ i₁ told. leads_end (size_of x1 x) refl i₁ (size_of_is _ a x1 x (spelled_place.is _ _ _ _ g1) told)

pub returns-in-Err : goal.returns-in-Err
unfolding read_size_of
returns-in-Err c = λ l. walks λ h a i. leads_skip _ (place_ok c.number.ensures c.in-Ok.is) refl λ x1 g1. leads_tried _ (c.in-Err.ensures false _) h (wrote_on i c.then_head-st.ensures) λ x _ i₁ told. leads_end (size_of x1 x) refl (type_instead _ x i i₁ c.write_fault-st.ensures) (size_of_bad _ a x1 x told)
