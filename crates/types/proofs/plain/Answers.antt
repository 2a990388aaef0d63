use mathlib.Core.Path.{refl}
use Rattle.walk.proofs.Leading.{walks, leads_end}
use Rattle.walk.proofs.Writing.{wrote}
use Rattle.types.proofs.plain.Goals as goal

pub returns : goal.returns
returns c = λ t l w. walks λ j a i. leads_end _ refl (wrote i c.then_number-st.ensures) λ _. refl
