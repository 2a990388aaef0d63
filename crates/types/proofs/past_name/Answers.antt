use Rattle.walk.proofs.Leading.{walks}
use Rattle.types.proofs.Trying.{leads_name, leads_unnamed, passed}
use Rattle.types.proofs.past_name.Goals as goal

pub returns-in_default : goal.returns-in_default
returns-in_default c = λ o l w. walks λ j a i. leads_unnamed c.read_identifier.ensures c.in_default.is

pub returns : goal.returns
returns c = λ o l w. walks λ j a i. leads_name c.read_identifier.ensures c.in-Ok.is (passed i)
