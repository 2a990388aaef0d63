use Rattle.walk.proofs.Leading.{walks}
use Rattle.types.proofs.Trying.{leads_ungiven, copied}
use Rattle.types.proofs.copy_length.Goals as goal

pub returns-in_default : goal.returns-in_default
returns-in_default c = λ l w. walks λ j a i. leads_ungiven c.number.ensures c.in_default.is

pub returns : goal.returns
returns c = λ l w. walks λ j a i. copied c.number.ensures c.in-Ok.is i c.then_number-st.ensures
