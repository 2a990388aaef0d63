use Rattle.walk.proofs.Leading.{walks}
use Rattle.types.proofs.Trying.{leads_given, leads_ungiven, passed}
use Rattle.types.proofs.past_length.Goals as goal

pub returns-in_default : goal.returns-in_default
returns-in_default c = λ o l w. walks λ j a i. leads_ungiven c.number.ensures c.in_default.is

pub returns : goal.returns
returns c = λ o l w. walks λ j a i. leads_given c.number.ensures c.in-Ok.is (passed i)
