use Rattle.walk.proofs.Using.{use_the_constant, constant_not}
use Rattle.walk.proofs.state.Walk.use_constant.Goals as goal

pub returns-in-Some : goal.returns-in-Some
returns-in-Some c = use_the_constant _ _ c.find_in.ensures c.in-Some.is c.use_containee.ensures

pub returns-in-None : goal.returns-in-None
returns-in-None c = constant_not c.find_in.ensures c.in-None.is c.no_constant.ensures
